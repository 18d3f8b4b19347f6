pub mod Arguments
pub mod Clock
pub mod Tables
pub mod CommandLine
pub mod Ask
