pub mod Holds
pub mod Relation
