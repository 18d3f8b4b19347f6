pub mod Sent
pub mod Keeps
pub mod Held
pub mod Sessions
pub mod Ahead
pub mod Addresses
pub mod Earliest
pub mod Memories
