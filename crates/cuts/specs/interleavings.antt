pub mod Open
pub mod Interleaving
