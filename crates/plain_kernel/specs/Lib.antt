pub mod CoreSteps
pub mod Bridged
pub mod Orderly
pub mod Ready
pub mod Value
pub mod Steps
