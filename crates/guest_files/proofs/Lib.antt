pub mod Bytes
pub mod Keeping
pub mod MoveLemmas
pub mod Names
pub mod OpenLemmas
pub mod Refusals
