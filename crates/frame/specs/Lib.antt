pub mod Digit
pub mod Line
pub mod Seal
pub mod Tests
pub mod Written
pub mod Held
