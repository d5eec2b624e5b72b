pub mod Counts
pub mod Files
pub mod MemSinks
pub mod Sinks
