pub mod Known
pub mod Texts
pub mod Items
pub mod Agreement
pub mod Printing
pub mod names
