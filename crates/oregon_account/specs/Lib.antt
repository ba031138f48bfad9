pub mod LowIncome
pub mod Worked
