pub mod Cents
pub mod Each
