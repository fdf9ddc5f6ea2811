pub mod Scenes
pub mod Answering
pub mod Settling
pub mod Steps
pub mod Judging
pub mod Filling
