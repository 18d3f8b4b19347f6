pub mod Lists
pub mod Shards
pub mod Jobs
pub mod Phases
pub mod Planning
pub mod Merging
pub mod Standing
