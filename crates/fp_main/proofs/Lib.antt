mod Below
pub mod CausesComing
pub mod CausesMeant
pub mod Counting
pub mod Dues
pub mod Finding
mod Found
pub mod Givens
pub mod Loads
pub mod Scenarios
pub mod SourcePhases
pub mod Wording
pub mod Writing
