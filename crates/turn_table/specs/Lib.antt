pub mod Views
pub mod Rules
pub mod States
pub mod Hands
