mod Rising
pub mod Counted
pub mod Nothing
pub mod Left
pub mod Later
