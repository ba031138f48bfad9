pub mod Rates
pub mod Sheet
pub mod Laws
pub mod Products
pub mod Tables
