pub mod Lanes
pub mod Begun
