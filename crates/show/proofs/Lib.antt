pub mod Headings
pub mod Across
pub mod Numbers
pub mod Texts
