pub mod Plan
pub mod Left
pub mod Fits
pub mod Clear
