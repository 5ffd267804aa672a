pub mod Verdicts
pub mod Fronts
pub mod Steps
pub mod Matching
pub mod Checking
pub mod Inputs
