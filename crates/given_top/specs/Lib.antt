pub mod Answered
pub mod Checked
pub mod Costed
pub mod Explained
pub mod Ran
pub mod Usage
pub mod Words
pub mod runs
