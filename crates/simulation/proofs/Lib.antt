pub mod TraceLists
pub mod Inputs
pub mod Judged
pub mod Outcomes
