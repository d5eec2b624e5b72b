mod Among
mod Converted
mod Declaring
mod Fits
mod Floating
mod Folding
pub mod Following
mod Joining
mod Looping
mod Passed
pub mod Standing
