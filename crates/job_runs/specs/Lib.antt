pub mod Modes
pub mod Orders
pub mod Runs
