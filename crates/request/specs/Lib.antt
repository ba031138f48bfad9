pub mod Kinds
pub mod Fields
pub mod Asked
pub mod Tests
