pub mod Places
pub mod Alike
mod Marks
mod Reaching
mod Stages
mod Entering
mod Joining
mod Settling
mod Steps
mod Deepening
mod Listed
pub mod Leading
