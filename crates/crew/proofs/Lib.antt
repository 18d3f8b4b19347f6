pub mod Keeps
pub mod Bags
