pub mod Sections
pub mod TickSteps
