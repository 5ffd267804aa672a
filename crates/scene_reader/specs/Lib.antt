pub mod SceneText
pub mod Whole
