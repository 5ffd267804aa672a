pub mod Anywhere
pub mod Behind
pub mod Carrying
pub mod Draining
pub mod Glimpses
pub mod Locality
pub mod Opening
pub mod Ranges
