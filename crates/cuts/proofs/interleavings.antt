pub mod Listed
pub mod Sends
pub mod Cuts
pub mod Moments
pub mod Counted
pub mod Interleavings
pub mod Strays
pub mod Whole
