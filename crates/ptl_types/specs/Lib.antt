pub mod Elements
pub mod Filled
pub mod Handles
pub mod Kinds
pub mod Matching
pub mod Messages
pub mod Operations
