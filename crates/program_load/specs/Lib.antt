pub mod Load
pub mod Faults
pub mod Loading
