pub mod Found
pub mod Slots
pub mod Changes
pub mod Stock
pub mod Dead
pub mod Rising
