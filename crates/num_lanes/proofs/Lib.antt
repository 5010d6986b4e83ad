pub mod Bytes
pub mod Clamps
pub mod Fill
pub mod Joins
pub mod LaneLemmas
pub mod Same
