pub mod Ofsets
pub mod Reporting
pub mod Moving
