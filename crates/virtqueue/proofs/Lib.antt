pub mod Writes
pub mod Walking
pub mod Bytes
