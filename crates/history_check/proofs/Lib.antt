pub mod Coming
pub mod Lined
pub mod Moved
pub mod Reached
pub mod Taken
pub mod Turned
pub mod Cutting
