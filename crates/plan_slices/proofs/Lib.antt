pub mod Slices
pub mod Elements
pub mod Together
pub mod Landing
pub mod Values
pub mod Uncut
