mod Always
pub mod Conditions
pub mod Holding
pub mod Links
mod Naming
mod Starting
