pub mod Kinds
pub mod Ports
pub mod Dictionary
pub mod Noted
pub mod Parts
pub mod Components
