pub mod Screen
pub mod Banks
pub mod Requests
pub mod Rows
pub mod Summary
pub mod Tables
