pub mod Broken
pub mod Places
pub mod Typed
pub mod Used
pub mod Listed
pub mod Resolved
pub mod Named
pub mod Measured
