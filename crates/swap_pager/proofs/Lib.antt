pub mod Rooms
pub mod Memories
pub mod Brings
pub mod Trials
pub mod Pagings
