pub mod Arguing
pub mod Counting
pub mod Programming
pub mod Repeating
pub mod Returning
