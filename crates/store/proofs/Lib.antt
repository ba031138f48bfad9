pub mod Keys
pub mod Tables
pub mod Searching
pub mod Stored
