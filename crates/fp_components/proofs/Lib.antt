mod Dictionary
mod Each
mod Known
mod Lists
mod Matched
mod Noted
mod OneComponents
mod OnePorts
pub mod Pieces
mod Queued
mod Roles
mod Valued
