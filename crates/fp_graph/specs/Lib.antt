pub mod Chains
pub mod Graph
pub mod Rows
pub mod Visits
pub mod Depths
