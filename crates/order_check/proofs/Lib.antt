pub mod Open
pub mod Stepping
pub mod Looking
pub mod Verdicts
