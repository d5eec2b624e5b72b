pub mod Names
pub mod Named
pub mod Log
pub mod Fitting
