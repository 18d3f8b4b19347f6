pub mod Distances
pub mod Found
