pub mod CommandFromBits
pub mod IntegralsFromBits
pub mod DriveFromBits
pub mod Ranges
