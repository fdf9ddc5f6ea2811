pub mod Seen
pub mod Machine
pub mod Rounds
