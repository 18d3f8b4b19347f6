pub mod Written
pub mod Outcomes
