pub mod Readings
pub mod Tests
pub mod Change
pub mod Reply
pub mod Edits
pub mod Exchange
pub mod Runs
pub mod Worked
