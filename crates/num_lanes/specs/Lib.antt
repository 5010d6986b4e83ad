pub mod Components
pub mod Lane
pub mod Ranges
pub mod Setters
