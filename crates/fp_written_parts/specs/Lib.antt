pub mod Given
pub mod Giving
pub mod Lying
pub mod Numbered
