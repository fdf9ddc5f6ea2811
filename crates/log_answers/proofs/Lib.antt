pub mod Compared
pub mod Digits
pub mod Printed
