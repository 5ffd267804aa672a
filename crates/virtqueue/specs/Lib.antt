pub mod Layout
pub mod Bytes
pub mod Chains
