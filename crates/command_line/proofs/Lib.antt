pub mod ClapApp
pub mod WordShapes
pub mod Unknown
pub mod Walks
pub mod Agreement
pub mod Parsed
pub mod Numerals
