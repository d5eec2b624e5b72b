pub mod Ranked
pub mod Firsts
pub mod Readers
pub mod Lists
