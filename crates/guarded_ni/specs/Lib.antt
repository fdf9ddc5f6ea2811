pub mod Misuses
pub mod Guarded
