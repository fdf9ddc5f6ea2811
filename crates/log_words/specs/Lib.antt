pub mod Words
pub mod Reading
pub mod call_fields
pub mod Flaws
