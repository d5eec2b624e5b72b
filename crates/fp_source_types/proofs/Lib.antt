mod Chained
pub mod Counting
mod Deep
mod Defined
pub mod Dotted
mod Existing
pub mod Expressed
mod Formed
mod Levels
mod Listing
mod Meant
mod Named
mod Naming
mod Numbered
mod Placed
mod Related
pub mod Resolved
mod Resulting
mod Serving
mod Sized
pub mod Standing
mod WellMade
