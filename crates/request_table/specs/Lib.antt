pub mod Requests
pub mod Tables
pub mod Lefts
pub mod Served
