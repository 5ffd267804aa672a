pub mod Calls
pub mod Commands
pub mod Lending
pub mod Origin
pub mod SceneLaw
pub mod Words
