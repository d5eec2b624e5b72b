mod Below
mod Growing
mod Items
mod Kinded
mod Numbers
pub mod Once
pub mod Places
mod PortNames
mod Rows
pub mod Texts
