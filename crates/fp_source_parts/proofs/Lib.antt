mod Along
mod Assembled
mod Assembling
mod External
pub mod Given
mod Giving
mod Ids
mod Imports
mod Least
mod MachineLeast
pub mod Members
mod Names
pub mod Numbered
pub mod Once
pub mod Positions
pub mod Sized
pub mod Taken
mod TopologyLeast
mod TopologyOnce
pub mod Values
mod Whole
