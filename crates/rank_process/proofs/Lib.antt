pub mod Sums
pub mod Steps
pub mod Placed
pub mod Ran
pub mod Ending
pub mod Doing
