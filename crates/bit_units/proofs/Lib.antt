pub mod Widths
pub mod PickLaws
