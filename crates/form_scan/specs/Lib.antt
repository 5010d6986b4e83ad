pub mod Front
pub mod Payload
pub mod Shaped
pub mod Reading
pub mod Scanning
