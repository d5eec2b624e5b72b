pub mod Phases
pub mod Broken
pub mod Definitions
pub mod Defined
pub mod Given
pub mod Counted
pub mod Joined
