pub mod Wiring
pub mod Fans
pub mod Opening
