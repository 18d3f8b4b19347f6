pub mod Units
pub mod Next
pub mod Runs
pub mod Counted
pub mod Joined
pub mod Ended
pub mod Rising
