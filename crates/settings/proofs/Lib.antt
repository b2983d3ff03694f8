pub mod SettingsFromBits
pub mod Ranges
pub mod Ties
pub mod WordLaws
pub mod AtBench
pub mod Names
