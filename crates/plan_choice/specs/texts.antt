pub mod machine
pub mod view
pub mod laws
pub mod orders
