pub mod Codes
pub mod Encoding
pub mod Reading
