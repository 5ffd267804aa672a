pub mod Asked
pub mod Skips
