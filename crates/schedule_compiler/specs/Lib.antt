pub mod Schedules
pub mod Keeping
pub mod Answers
pub mod Jobs
pub mod done
pub mod shapes
