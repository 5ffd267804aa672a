pub mod Changes
pub mod Joined
pub mod Within
pub mod Ports
