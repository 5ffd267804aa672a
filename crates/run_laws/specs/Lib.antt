pub mod Answered
pub mod Order
pub mod Progress
