mod Counting
mod Folding
mod Instances
mod Naming
mod Noting
mod Numbered
mod Pairs
pub mod Sides
