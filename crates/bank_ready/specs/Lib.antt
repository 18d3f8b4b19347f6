pub mod Ready
pub mod Words
pub mod Raised
pub mod Noted
pub mod Stands
pub mod Refreshes
pub mod Kept
