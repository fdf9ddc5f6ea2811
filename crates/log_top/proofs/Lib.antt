pub mod Asked
pub mod Lines
pub mod LinesRead
pub mod LinesJudged
pub mod LinesFilled
pub mod LinesServed
