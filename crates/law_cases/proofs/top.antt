pub mod Owed
pub mod Asked
pub mod Left
