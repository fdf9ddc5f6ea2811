pub mod Causes
pub mod Fit
pub mod Guards
pub mod Sizes
pub mod values
