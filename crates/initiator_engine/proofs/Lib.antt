pub mod Bounds
pub mod Naming
pub mod Starting
pub mod SlotWalks
