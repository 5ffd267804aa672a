pub mod Longer
pub mod Lawful
