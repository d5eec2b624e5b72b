pub mod Behind
pub mod Walks
pub mod Wanted
pub mod SoundMachine
