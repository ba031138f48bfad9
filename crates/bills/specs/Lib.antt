pub mod Bill
pub mod Entered
pub mod Name
pub mod Number
