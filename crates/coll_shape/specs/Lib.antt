pub mod Folding
pub mod Rows
pub mod Outline
pub mod Collectives
pub mod WellFormed
pub mod Meaning
pub mod Said
