pub mod Fitting
pub mod Flat
pub mod Layout
pub mod Moving
pub mod Placed
pub mod SoundMachine
pub mod Walking
