pub mod Manifests
pub mod Spelled
