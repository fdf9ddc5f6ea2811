pub mod Initiators
