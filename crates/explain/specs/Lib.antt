pub mod Counts
pub mod Heads
pub mod Host
pub mod Numbers
pub mod Fragments
pub mod Silence
