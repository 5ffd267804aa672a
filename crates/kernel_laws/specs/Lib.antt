pub mod Actors
pub mod Entries
pub mod Numbers
