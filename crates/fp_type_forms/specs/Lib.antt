pub mod Written
pub mod Resolved
pub mod Broken
pub mod Tested
