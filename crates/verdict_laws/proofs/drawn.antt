pub mod Apart
mod Begun
pub mod Cells
pub mod Marked
pub mod Named
