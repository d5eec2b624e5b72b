pub mod Calls
pub mod Contents
pub mod Lanes
pub mod Taking
