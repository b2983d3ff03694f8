pub mod Lists
pub mod Runs
pub mod Outcomes
pub mod Pieces
