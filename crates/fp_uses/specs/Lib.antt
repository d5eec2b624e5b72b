pub mod Given
pub mod Flagged
