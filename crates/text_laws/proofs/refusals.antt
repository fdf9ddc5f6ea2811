pub mod Lowest
pub mod Grammar
pub mod Lines
pub mod Counting
pub mod Texts
