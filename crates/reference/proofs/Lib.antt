pub mod Coming
pub mod Given
pub mod Stopped
pub mod Stopping
