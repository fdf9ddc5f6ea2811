pub mod Limits
pub mod Words
pub mod Graph
pub mod Takes
pub mod Installing
pub mod Costs
