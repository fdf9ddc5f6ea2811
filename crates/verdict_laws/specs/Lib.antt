pub mod Flawless
pub mod GivenJobs
pub mod Right
pub mod Verdicts
