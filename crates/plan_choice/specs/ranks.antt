pub mod Given
pub mod Seats
