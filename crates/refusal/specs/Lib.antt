pub mod Refusals
pub mod Lines
pub mod Streams
pub mod Warnings
pub mod Telling
pub mod Heads
