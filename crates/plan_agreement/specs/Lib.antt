pub mod Agreement
pub mod Evaluated
pub mod Witness
pub mod Bare
