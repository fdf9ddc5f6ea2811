pub mod Keys
pub mod Names
pub mod Postings
pub mod Flights
