pub mod Choices
pub mod Plain
pub mod Fields
