pub mod Keeps
pub mod Layout
pub mod Marks
pub mod Steps
