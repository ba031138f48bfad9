pub mod Refusal
pub mod First
pub mod Checked
pub mod Demand
pub mod Flags
pub mod Limits
pub mod Statement
