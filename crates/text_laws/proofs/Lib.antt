pub mod Words
pub mod Back
