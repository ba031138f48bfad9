pub mod Cuts
pub mod Flaws
pub mod Words
