pub mod Kinds
pub mod Definitions
pub mod Members
pub mod Listing
