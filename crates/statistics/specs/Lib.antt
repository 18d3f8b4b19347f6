pub mod Values
pub mod Counts
pub mod Counters
pub mod Cores
pub mod Channels
pub mod Runs
pub mod Outcomes
