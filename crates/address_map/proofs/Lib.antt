pub mod Fields
pub mod Peeled
pub mod Joined
pub mod Shifted
