pub mod Numbered
pub mod FirstOpcodes
