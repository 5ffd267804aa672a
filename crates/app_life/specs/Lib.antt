pub mod Lives
pub mod StartPorts
pub mod Inside
pub mod Places
pub mod Lending
