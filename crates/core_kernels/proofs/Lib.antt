pub mod Clientless
pub mod Orders
pub mod Statuses
pub mod Unswept
