pub mod Bound
pub mod Leading
pub mod Due
pub mod Judged
pub mod Marked
pub mod Tables
pub mod Words
