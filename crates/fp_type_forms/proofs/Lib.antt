pub mod Only
pub mod OneForm
pub mod Taking
pub mod Ranks
pub mod Following
pub mod Ready
pub mod Adding
pub mod Breaking
pub mod Repeating
mod Noting
mod Parted
pub mod Represented
mod Uniting
pub mod Sized
