pub mod Growth
pub mod Removal
pub mod Slots
pub mod StoreLemmas
