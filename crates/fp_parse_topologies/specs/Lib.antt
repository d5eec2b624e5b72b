pub mod Instances
pub mod Connections
pub mod Topologies
