pub mod Pieces
pub mod Draws
pub mod Paths
pub mod Buffers
pub mod Moves
pub mod Parts
