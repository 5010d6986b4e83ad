pub mod PageLemmas
pub mod FillLemmas
pub mod LoadLemmas
mod Examples
