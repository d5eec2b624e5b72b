pub mod Bytes
pub mod Words
pub mod Newlines
pub mod Tokens
pub mod Broken
pub mod Alike
pub mod Scan
pub mod Found
