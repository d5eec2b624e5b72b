pub mod Listing
pub mod Resolved
pub mod Whole
