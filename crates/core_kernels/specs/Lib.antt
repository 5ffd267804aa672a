pub mod CoreSteps
pub mod Orderly
pub mod Steps
pub mod Value
