pub mod Decided
pub mod Traffic
