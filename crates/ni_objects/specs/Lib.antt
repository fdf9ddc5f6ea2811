pub mod handles
pub mod users
