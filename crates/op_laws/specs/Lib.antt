pub mod Combining
pub mod Laws
