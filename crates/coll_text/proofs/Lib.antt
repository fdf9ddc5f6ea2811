pub mod Cutting
pub mod Spelled
pub mod Data
pub mod DataSpelled
pub mod Writes
pub mod ReadBack
pub mod WordsBack
pub mod Leading
