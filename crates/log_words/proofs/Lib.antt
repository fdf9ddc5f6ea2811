pub mod Columns
pub mod Digits
pub mod FieldSteps
