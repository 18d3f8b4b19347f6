pub mod Status
pub mod Asked
pub mod Answered
pub mod Done
pub mod Refused
pub mod Told
pub mod Runs
