pub mod History
pub mod System
pub mod Cut
pub mod Lanes
pub mod Moment
pub mod Wave
pub mod Plans
pub mod Barrier
