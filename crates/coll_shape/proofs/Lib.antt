pub mod Asking
pub mod Formed
pub mod Rows
pub mod ByCollective
