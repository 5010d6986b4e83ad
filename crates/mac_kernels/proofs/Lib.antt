pub mod Quotients
pub mod Steps
