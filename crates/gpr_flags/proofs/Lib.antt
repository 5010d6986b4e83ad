pub mod SignedBits
pub mod Signs
pub mod Widths
