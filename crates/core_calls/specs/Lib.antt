pub mod Connecting
pub mod Sends
