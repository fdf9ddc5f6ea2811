pub mod Listed
pub mod Stuck
pub mod Lanes
pub mod Falling
pub mod Places
pub mod Counted
pub mod Found
