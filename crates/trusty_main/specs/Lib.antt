pub mod Answers
pub mod Commanded
pub mod Due
pub mod Plans
pub mod Texts
