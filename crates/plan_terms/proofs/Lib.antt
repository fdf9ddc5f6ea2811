pub mod Landing
pub mod NextCell
pub mod Placing
