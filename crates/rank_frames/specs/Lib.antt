pub mod Frames
pub mod Due
pub mod Place
pub mod Going
