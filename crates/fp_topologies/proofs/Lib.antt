pub mod ClosingSteps
pub mod Differing
pub mod Earlier
pub mod FillingSteps
mod Finding
mod Flags
mod Folding
mod Graph
mod Growing
pub mod Having
pub mod Hiding
mod ImportNoting
mod JoiningSteps
mod Linked
mod Linking
mod Lists
pub mod Lying
pub mod Meeting
mod MemberSteps
mod MembersNoted
pub mod NotingSteps
mod Numbers
mod OneList
pub mod OneOrder
pub mod Ordering
mod Orders
mod Pattern
pub mod Placing
pub mod Single
pub mod Ways
