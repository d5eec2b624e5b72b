pub mod Answers
pub mod Gathered
pub mod Includes
pub mod Names
pub mod Reading
pub mod Walks
