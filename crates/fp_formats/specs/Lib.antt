pub mod Fits
pub mod Marks
pub mod Spelling
