pub mod Commanding
pub mod Headline
pub mod Reporting
pub mod Untold
