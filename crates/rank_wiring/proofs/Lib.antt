pub mod Rows
pub mod UsedLanes
pub mod Fans
pub mod Lines
pub mod Handing
pub mod Sent
pub mod Fresh
