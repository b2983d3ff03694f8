pub mod Ranges
pub mod Settings
pub mod Words
pub mod Promised
pub mod BenchSettings
