pub mod Sums
pub mod Words
pub mod Cells
pub mod Steps
pub mod Whole
pub mod Gathering
pub mod Counting
pub mod Keeping
