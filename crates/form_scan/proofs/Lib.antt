pub mod Lead
pub mod Reader
pub mod Full
pub mod Rest
pub mod Reached
pub mod Heads
pub mod Whole
pub mod Staying
