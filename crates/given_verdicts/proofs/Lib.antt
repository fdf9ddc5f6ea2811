pub mod Unlike
pub mod Lengths
pub mod Reading
pub mod Wording
pub mod Answering
pub mod Flawless
pub mod Meant
