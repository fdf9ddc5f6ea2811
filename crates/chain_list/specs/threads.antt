pub mod Fields
pub mod Nodes
pub mod Threads
