pub mod FirstWords
pub mod Models
pub mod Members
pub mod Files
pub mod Units
