pub mod Texts
pub mod Pairs
pub mod Options
pub mod Files
pub mod Reading
pub mod Command
pub mod Holding
