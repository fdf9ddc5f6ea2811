pub mod Bytes
pub mod Swaps
pub mod OpLaws
pub mod Starts
