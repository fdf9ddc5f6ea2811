pub mod Written
pub mod refusals
