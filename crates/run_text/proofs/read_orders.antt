pub mod Back
pub mod Ending
pub mod Whole
