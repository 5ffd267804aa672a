pub mod Fitting
pub mod WorkedState
pub mod Peers
pub mod Sweeps
