pub mod Soonest
pub mod Times
pub mod Events
pub mod State
pub mod Answers
pub mod Ranks
pub mod Path
pub mod Lasts
