pub mod Figures
pub mod Line
pub mod Pace
