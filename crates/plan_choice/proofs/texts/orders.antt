pub mod Firings
pub mod Enabled
pub mod Moves
pub mod OneRun
pub mod Ending
