pub mod gathering
pub mod FilesRun
