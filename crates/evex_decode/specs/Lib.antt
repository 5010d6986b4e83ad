pub mod Scale
pub mod Spelling
