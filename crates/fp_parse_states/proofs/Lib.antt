mod TransitionsFit
mod BodiesFit
mod Rows
mod Singles
mod ToSteps
mod FromSteps
pub mod NestedFit
mod MachinesDecided
