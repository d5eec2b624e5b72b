pub mod Closing
pub mod Meeting
pub mod Progress
pub mod Standing
pub mod Turns
