pub mod Transitions
pub mod Elements
pub mod Nested
pub mod Bodies
pub mod Partial
