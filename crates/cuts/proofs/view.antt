pub mod Tables
pub mod MatchBits
pub mod StepFire
pub mod StepArrive
pub mod Installed
