pub mod Operands
pub mod Examined
pub mod Settled
pub mod Marked
pub mod Laid
pub mod Tabled
pub mod Answered
