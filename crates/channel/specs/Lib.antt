pub mod Ends
pub mod Queues
