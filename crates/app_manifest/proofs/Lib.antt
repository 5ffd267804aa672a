pub mod PortsRead
pub mod Lawful
