pub mod Counts
mod Giving
mod UsesListed
mod Along
mod LeastFlagged
