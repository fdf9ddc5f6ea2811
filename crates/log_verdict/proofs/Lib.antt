pub mod Comings
pub mod Pieces
pub mod Places
pub mod Stays
pub mod OneLine
pub mod Conforming
pub mod Longs
pub mod LongFills
