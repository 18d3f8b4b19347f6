pub mod ManyFiles
pub mod NamedFacts
pub mod PageFacts
pub mod RefusedFacts
pub mod RequestFacts
