pub mod Layout
pub mod Rates
pub mod Reply
pub mod Schedules
