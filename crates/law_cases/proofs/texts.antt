pub mod Orders
pub mod Written
pub mod Json
pub mod Sunk
