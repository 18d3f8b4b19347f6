pub mod Banks
pub mod Named
pub mod Pages
pub mod Requests
pub mod Answers
pub mod Refused
pub mod Inputs
