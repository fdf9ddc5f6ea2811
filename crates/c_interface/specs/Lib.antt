pub mod Calls
pub mod Forms
pub mod Framing
pub mod Messages
pub mod Over
pub mod Statuses
