pub mod Files
pub mod WholeFile
pub mod Tables
pub mod Planned
pub mod HostAnswers
