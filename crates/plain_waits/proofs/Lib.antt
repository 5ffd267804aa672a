pub mod Descending
pub mod Waiting
