pub mod Slices
pub mod Checked
