pub mod Results
pub mod Barriers
pub mod interleavings
pub mod steps
