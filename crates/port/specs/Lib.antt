pub mod Listing
pub mod Pending
