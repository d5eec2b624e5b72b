pub mod Lists
pub mod Growing
pub mod Tables
pub mod Roots
pub mod Longest
pub mod Nodes
pub mod Faults
