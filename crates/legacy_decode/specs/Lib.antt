pub mod Lock
pub mod Spelling
