pub mod Acts
pub mod Laying
pub mod World
pub mod ranks
pub mod texts
