pub mod Words
pub mod Language
pub mod Definitions
pub mod Specifiers
pub mod Reading
