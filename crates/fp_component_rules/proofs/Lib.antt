mod Apart
mod Clashing
mod Flags
mod Folding
pub mod GatheringLaws
mod Lacking
mod Linked
mod Linking
pub mod Listed
mod Lists
mod Meeting
pub mod Named
mod Naming
mod Noting
mod Once
mod Ordered
mod Pairing
mod Passing
mod PortNaming
mod Sorting
mod Summed
mod Unbroken
mod Waiting
