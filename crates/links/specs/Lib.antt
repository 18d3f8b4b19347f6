pub mod InFlight
pub mod Buffers
pub mod Latencies
