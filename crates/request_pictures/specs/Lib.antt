pub mod Legends
pub mod Pieces
pub mod Scales
pub mod Section
