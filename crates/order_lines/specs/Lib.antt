pub mod Orders
pub mod Check
