pub mod Start
pub mod Keeps
pub mod Waiting
