pub mod Cutting
pub mod Places
pub mod Imaged
