pub mod Laying
pub mod Fresh
pub mod Frames
