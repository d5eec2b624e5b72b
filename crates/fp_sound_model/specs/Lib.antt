pub mod IdRanges
pub mod Parts
