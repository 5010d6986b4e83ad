pub mod BitLogic
pub mod Wrap
