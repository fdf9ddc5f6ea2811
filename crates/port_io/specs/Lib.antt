pub mod Counts
pub mod Ends
pub mod Turns
pub mod Memory
