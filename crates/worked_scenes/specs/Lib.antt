pub mod Scenes
pub mod Printouts
