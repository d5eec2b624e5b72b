pub mod Noted
pub mod Planted
pub mod Hands
pub mod Rows
pub mod Opened
pub mod Closed
