pub mod Greatest
pub mod Within
pub mod Made
pub mod Each
pub mod Handed
