pub mod Change
pub mod Worked
