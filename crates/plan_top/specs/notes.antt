pub mod Parts
pub mod Table
pub mod Again
pub mod Dues
pub mod Failing
pub mod Notes
