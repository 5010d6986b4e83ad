pub mod CheckLemmas
pub mod ImageLemmas
pub mod SegmentLemmas
