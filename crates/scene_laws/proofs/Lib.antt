pub mod Parts
pub mod Results
pub mod Quiet
pub mod Turns
pub mod Honest
pub mod FirstWords
pub mod Tally
