pub mod Rows
pub mod Tables
pub mod Commands
pub mod Requests
pub mod Stats
pub mod Final
