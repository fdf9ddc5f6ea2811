pub mod Left
pub mod Named
pub mod Places
pub mod Possible
