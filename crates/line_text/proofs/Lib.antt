pub mod Room
pub mod Sixteens
