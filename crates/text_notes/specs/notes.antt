pub mod Shown
pub mod Causes
pub mod Messages
pub mod Notes
