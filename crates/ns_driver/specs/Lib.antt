pub mod Value
pub mod Acts
pub mod Plans
pub mod Watching
pub mod Worlds
