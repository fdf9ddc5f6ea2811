pub mod Gone
pub mod Clear
pub mod Placed
pub mod Steps
pub mod By
