mod Apart
mod Bases
mod Built
pub mod Once
mod Ranged
mod Sized
