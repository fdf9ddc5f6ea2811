pub mod Meant
pub mod Lists
pub mod Moved
pub mod Telling
