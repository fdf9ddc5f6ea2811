pub mod Moving
pub mod Counting
pub mod Stepping
pub mod Possible
pub mod Standing
pub mod Running
pub mod Opening
