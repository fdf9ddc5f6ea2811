pub mod Naming
pub mod Sums
pub mod Installing
