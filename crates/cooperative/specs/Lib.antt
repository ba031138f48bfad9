pub mod Schedule
pub mod Laws
