pub mod Lefts
pub mod Lists
pub mod Rows
pub mod Tables
