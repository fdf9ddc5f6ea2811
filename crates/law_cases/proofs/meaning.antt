mod Descriptions
mod Groups
mod Edges
pub mod Holders
pub mod Formed
