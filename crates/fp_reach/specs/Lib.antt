pub mod Nodes
pub mod Reaching
pub mod Rings
pub mod Vertices
pub mod Cycles
pub mod Found
