pub mod Cycles
pub mod Cutting
pub mod Reading
