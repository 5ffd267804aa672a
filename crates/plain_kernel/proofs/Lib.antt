pub mod Clientless
pub mod Filled
pub mod NoMoreNames
pub mod Orders
pub mod Pushing
pub mod Statuses
pub mod Summing
pub mod Taking
