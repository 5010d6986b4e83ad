pub mod MemoryLemmas
pub mod StateLemmas
