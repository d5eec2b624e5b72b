pub mod Broken
pub mod Elements
pub mod Integers
pub mod Sorted
pub mod Readable
