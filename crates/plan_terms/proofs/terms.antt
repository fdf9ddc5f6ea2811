pub mod Again
pub mod Folds
pub mod Repeated
pub mod Rising
pub mod Runs
pub mod Solving
pub mod Tables
pub mod Elements
