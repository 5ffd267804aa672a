pub mod Breaks
pub mod Held
pub mod WorkedBreak
