pub mod Sweeping
pub mod Living
