pub mod Broken
pub mod Ids
pub mod Listed
pub mod Repeated
pub mod Running
pub mod Tested
