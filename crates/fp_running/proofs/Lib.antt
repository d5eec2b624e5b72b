pub mod Anew
mod Asking
mod Closed
mod Left
mod Nothing
mod Noting
mod Numbering
mod OneTurn
pub mod OnlyGoing
mod Opened
pub mod Parts
mod Replaying
mod Stepping
mod Steps
