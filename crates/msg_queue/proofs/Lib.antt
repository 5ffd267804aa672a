pub mod Searches
pub mod Ids
pub mod Places
