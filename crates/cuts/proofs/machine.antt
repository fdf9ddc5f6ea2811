pub mod RankOps
pub mod Reached
pub mod Central
pub mod Ancestors
pub mod Rounds
