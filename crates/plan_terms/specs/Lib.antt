pub mod Cells
pub mod terms
