pub mod Phased
mod Stopping
mod Judged
mod Adding
mod Standing
mod Numbering
mod Qualified
mod Lying
mod Lengths
mod Deploying
mod Renaming
mod Stripping
mod Wiring
mod Ported
mod Matching
mod Sounds
mod Whole
mod Made
