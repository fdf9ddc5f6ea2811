pub mod Passes
pub mod Sums
pub mod PerClass
pub mod ByClass
pub mod Room
pub mod Indexed
pub mod Assembling
pub mod Pairs
