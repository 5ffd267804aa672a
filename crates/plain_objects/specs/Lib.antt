pub mod Counting
pub mod Pending
pub mod Surveys
pub mod Predicates
