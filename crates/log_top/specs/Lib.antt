pub mod Reading
pub mod Ending
pub mod Telling
pub mod Answered
pub mod Turns
