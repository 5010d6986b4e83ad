pub mod StreamLemmas
pub mod LayoutLemmas
pub mod ByteLemmas
pub mod HostLemmas
pub mod MoveLemmas
