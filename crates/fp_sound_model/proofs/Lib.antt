pub mod Joining
pub mod Numbered
pub mod Parted
pub mod RangesApart
pub mod Specials
pub mod Structured
pub mod Uses
