pub mod Landed
pub mod CellByCell
pub mod Judged
pub mod Beginning
