pub mod Entries
pub mod Removed
