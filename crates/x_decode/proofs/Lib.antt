pub mod Classes
pub mod Cases
pub mod Computing
mod Examples
