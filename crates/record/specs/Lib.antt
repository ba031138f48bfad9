pub mod States
pub mod Meters
pub mod Holding
pub mod Rows
pub mod Checked
pub mod Edits
