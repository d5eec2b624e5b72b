pub mod Earlier
pub mod Found
pub mod Large
pub mod Sized
pub mod Sizes
