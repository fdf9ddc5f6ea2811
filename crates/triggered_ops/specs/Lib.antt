pub mod Codes
pub mod Hung
pub mod Layout
pub mod Operations
pub mod marks
