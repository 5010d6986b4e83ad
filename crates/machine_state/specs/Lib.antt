pub mod Memory
pub mod Random
pub mod Regions
pub mod State
pub mod World
