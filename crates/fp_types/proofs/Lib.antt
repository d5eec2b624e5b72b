mod OneResult
mod Inverting
mod Made
mod Loops
mod Opening
mod Through
mod Complete
mod Passed
mod Meetings
mod Causes
mod Quiet
mod Example
pub mod AllGiven
pub mod HasKind
mod Bounded
mod SoundTypes
mod Total
mod Existing
