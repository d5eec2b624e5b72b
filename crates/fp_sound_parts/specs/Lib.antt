pub mod ComponentSound
pub mod Machines
pub mod Premises
pub mod Ready
pub mod Sound
