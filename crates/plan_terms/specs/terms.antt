pub mod Terms
pub mod Folds
