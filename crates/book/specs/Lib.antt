pub mod Meaning
pub mod Money
pub mod Settled
pub mod Words
