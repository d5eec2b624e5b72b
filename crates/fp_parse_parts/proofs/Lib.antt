mod WordsBelow
mod AmongWords
mod MembersFit
mod Semicolons
mod Reaching
mod Breaking
mod Following
mod Insides
