pub mod NumberLemmas
pub mod SearchLemmas
pub mod PairLemmas
pub mod NameLemmas
pub mod FileLemmas
pub mod ReadLemmas
pub mod EndLemmas
pub mod CommandLemmas
