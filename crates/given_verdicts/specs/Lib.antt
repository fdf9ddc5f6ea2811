pub mod Differences
pub mod Answers
pub mod Saying
pub mod general
