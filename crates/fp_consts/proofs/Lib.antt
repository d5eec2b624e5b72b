mod Operators
mod Wholes
pub mod Sizes
mod Given
pub mod Measures
mod Produced
mod Gathering
mod Sized
pub mod Arms
mod Grounded
mod Marked
pub mod Counted
pub mod Valued
pub mod Tabled
pub mod Grouped
mod Evaluated
mod Answered
mod Opaque
pub mod Rolled
mod Apart
mod Own
