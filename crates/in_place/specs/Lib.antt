pub mod Turns
pub mod Timed
