pub mod Entries
pub mod NextMemory
pub mod Numerals
pub mod Lines
pub mod Reading
pub mod Pieces
pub mod Marks
pub mod Usual
