pub mod RowsRead
pub mod MarksRead
pub mod Heads
