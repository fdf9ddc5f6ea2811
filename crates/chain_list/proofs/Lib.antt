pub mod ChainKept
pub mod ChainLemmas
pub mod KeyLemmas
pub mod NodeLemmas
pub mod PlaceLemmas
pub mod Rows
