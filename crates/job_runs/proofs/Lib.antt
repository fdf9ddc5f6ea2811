pub mod Reaching
pub mod Rests
