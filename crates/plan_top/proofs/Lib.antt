pub mod Answering
pub mod Plans
pub mod Steps
pub mod Telling
