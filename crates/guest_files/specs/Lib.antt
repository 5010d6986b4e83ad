pub mod Errnos
pub mod Files
pub mod Content
pub mod Checks
pub mod Open
pub mod Moves
pub mod Entries
pub mod Kept
