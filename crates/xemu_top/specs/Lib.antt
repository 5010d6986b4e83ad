pub mod Lines
pub mod Files
pub mod Command
pub mod Loading
pub mod Headline
pub mod Parts
