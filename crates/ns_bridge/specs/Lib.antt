pub mod Acts
pub mod Kinds
pub mod Lawful
pub mod Parts
pub mod Timely
pub mod Waits
pub mod Wholes
