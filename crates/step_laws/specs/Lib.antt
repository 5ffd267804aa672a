pub mod SmallChanges
pub mod Walks
