pub mod Elements
pub mod Gathered
pub mod Used
pub mod Kept
pub mod Causes
