pub mod Limits
pub mod Readings
pub mod Served
