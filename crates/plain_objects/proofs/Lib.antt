pub mod Changing
pub mod Fewer
pub mod Numbers
pub mod Pruning
pub mod Rooms
