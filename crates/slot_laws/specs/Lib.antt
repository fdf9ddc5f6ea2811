pub mod Renaming
pub mod Renamed
pub mod Told
pub mod Naming
pub mod Alike
