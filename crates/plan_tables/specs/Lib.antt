pub mod Rising
pub mod Tables
pub mod AreaTables
pub mod Installed
pub mod Ranks
