pub mod Beside
pub mod Chained
pub mod Shaping
pub mod Sized
