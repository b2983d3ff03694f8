pub mod Whole
pub mod Feeding
pub mod OneRun
pub mod Example
