pub mod Receiving
pub mod Firing
pub mod Stepping
