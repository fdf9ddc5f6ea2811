pub mod Status
pub mod Refused
pub mod Opening
pub mod Runs
pub mod Notes
pub mod Owed
pub mod lines
pub mod laws
