mod StatedSame
pub mod PartsFit
