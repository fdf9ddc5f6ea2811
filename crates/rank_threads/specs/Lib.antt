pub mod Turns
pub mod Fabrics
pub mod Closing
pub mod Resting
