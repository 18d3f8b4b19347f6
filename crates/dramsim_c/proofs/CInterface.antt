pub mod Pointers
pub mod AsBox
pub mod Keeping
pub mod Judging
pub mod CMemoryAsBox
pub mod Giving
pub mod CMemoryKeeping
