pub mod Walks
pub mod Throughout
pub mod Meanings
pub mod OneValue
pub mod OneOrigin
mod Worked
pub mod Since
pub mod Opened
pub mod UseWalks
