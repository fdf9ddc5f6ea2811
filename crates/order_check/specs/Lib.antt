pub mod Listing
pub mod Open
pub mod Work
