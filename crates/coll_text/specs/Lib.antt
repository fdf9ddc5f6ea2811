pub mod Text
pub mod Cuts
pub mod Elements
pub mod Values
pub mod Answers
pub mod Named
