pub mod Numbers
pub mod Made
pub mod Elected
pub mod Ticketed
pub mod Whole
pub mod Installed
