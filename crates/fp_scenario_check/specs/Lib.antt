pub mod Broken
pub mod Faults
pub mod Keys
pub mod Planned
