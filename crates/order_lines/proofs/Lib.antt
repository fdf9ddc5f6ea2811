pub mod Steps
pub mod Lines
pub mod Ends
pub mod Inputs
pub mod Cases
