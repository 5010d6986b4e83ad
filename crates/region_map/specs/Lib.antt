pub mod Ranges
pub mod Changes
pub mod Calls
pub mod Lists
