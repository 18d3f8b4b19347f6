pub mod Requests
pub mod Offers
pub mod Cycles
pub mod Choices
pub mod Arrivals
