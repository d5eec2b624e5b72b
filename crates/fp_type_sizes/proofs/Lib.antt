pub mod OneSize
pub mod NoCycle
pub mod Counted
pub mod Limits
pub mod TooLarge
pub mod Ordered
mod Earlier
