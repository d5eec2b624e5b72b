mod Begun
mod Components
pub mod Definitions
pub mod Depths
pub mod Expressions
pub mod Held
mod Instances
pub mod Known
pub mod Lists
mod Machines
pub mod Members
mod ModelWalks
pub mod Models
mod Nesting
pub mod Preserving
pub mod SiteComponents
mod SiteDefinitions
mod SiteExpressions
mod SiteMachines
mod SiteMembers
pub mod SiteTopologies
mod SiteWalks
mod Standing
mod Telling
pub mod Tokens
mod Topologies
pub mod Walks
mod Words
mod Writing
pub mod Anything
