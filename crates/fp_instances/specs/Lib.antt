pub mod Ascending
pub mod Broken
pub mod Facts
pub mod InstanceBroken
pub mod Numbers
pub mod Ranges
pub mod Resolved
