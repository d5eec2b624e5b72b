pub mod TopologiesFit
pub mod TopologiesDecided
