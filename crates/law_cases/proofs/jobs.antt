pub mod Job
pub mod Windows
pub mod Sizes
pub mod Stepped
