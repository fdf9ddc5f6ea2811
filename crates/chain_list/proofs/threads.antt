pub mod InsertLemmas
pub mod LinkLemmas
pub mod ThreadLemmas
