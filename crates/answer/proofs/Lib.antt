pub mod Fours
pub mod Payload
pub mod Reading
