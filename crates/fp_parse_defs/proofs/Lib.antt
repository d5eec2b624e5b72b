mod Levels
pub mod DefinitionsFit
mod Parts
pub mod ExpressionsDecided
mod ReadingLemmas
