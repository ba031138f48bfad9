pub mod Fields
pub mod Entries
pub mod Zeros
pub mod Rows
pub mod Verdicts
