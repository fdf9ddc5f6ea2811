pub mod Forms
pub mod Needed
pub mod Lengths
pub mod Steps
pub mod Printed
