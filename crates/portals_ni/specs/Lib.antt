pub mod Pendings
pub mod Lasting
pub mod Sound
pub mod Answers
pub mod Uses
pub mod Forms
pub mod Fit
