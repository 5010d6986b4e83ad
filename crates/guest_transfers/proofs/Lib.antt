pub mod Along
pub mod PartLemmas
pub mod FileLemmas
pub mod DrawLemmas
pub mod PathLemmas
pub mod BufferLemmas
pub mod Turns
