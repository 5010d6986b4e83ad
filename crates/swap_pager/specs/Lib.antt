pub mod Bringing
pub mod Paging
pub mod Stages
