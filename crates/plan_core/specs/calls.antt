pub mod RankOps
pub mod Bits
pub mod Areas
pub mod Lanes
pub mod Limits
pub mod Calls
