mod Giving
mod Keeping
mod Known
