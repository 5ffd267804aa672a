pub mod DriverWords
