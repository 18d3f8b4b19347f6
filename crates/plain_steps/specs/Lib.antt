pub mod Plain
pub mod Issues
pub mod Choices
