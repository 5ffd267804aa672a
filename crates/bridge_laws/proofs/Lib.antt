pub mod Counts
pub mod Free
pub mod Entries
pub mod Core
pub mod Device
pub mod Steps
