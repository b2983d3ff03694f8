pub mod CallLaws
pub mod CallWords
pub mod Whole
