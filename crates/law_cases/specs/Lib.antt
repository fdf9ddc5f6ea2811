pub mod plans
pub mod done
pub mod orders
pub mod interleavings
pub mod choices
pub mod barriers
pub mod jobs
