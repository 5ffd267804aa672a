pub mod Deadlines
pub mod Filling
pub mod Tables
