pub mod Behind
mod Counts
pub mod Found
pub mod Going
mod Kept
pub mod Laid
mod Members
mod Vertices
pub mod Whole
