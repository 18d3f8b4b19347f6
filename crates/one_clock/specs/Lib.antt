pub mod Pasts
pub mod Counts
pub mod Steps
pub mod Cycles
pub mod Ends
pub mod Held
