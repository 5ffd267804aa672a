pub mod Books
pub mod Logs
pub mod Moves
pub mod Spares
