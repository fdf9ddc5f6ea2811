pub mod Bytes
pub mod Seats
pub mod Answers
