pub mod WordsFit
mod Eithers
