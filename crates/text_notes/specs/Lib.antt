pub mod Places
pub mod notes
