pub mod Counts
pub mod Shapes
