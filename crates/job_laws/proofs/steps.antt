mod Through
pub mod Chain
pub mod Remote
