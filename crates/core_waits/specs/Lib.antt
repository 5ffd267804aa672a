pub mod AtOnce
pub mod Reported
pub mod Unswept
