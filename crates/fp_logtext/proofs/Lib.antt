pub mod Components
pub mod Commands
pub mod Naming
pub mod Runs
pub mod Numbers
pub mod WorkedTexts
pub mod Pushed
