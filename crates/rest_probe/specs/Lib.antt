pub mod Counted
pub mod Lanes
pub mod Waves
pub mod Answered
