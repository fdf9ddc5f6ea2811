pub mod Excess
pub mod Explained
pub mod Owed
pub mod Texts
pub mod notes
