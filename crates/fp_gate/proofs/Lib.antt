pub mod Entries
mod Views
mod Working
mod Steps
mod Ends
mod Passes
mod Words
