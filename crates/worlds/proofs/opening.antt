pub mod Lists
pub mod Laid
pub mod Rooms
pub mod Begun
pub mod Told
pub mod Counted
