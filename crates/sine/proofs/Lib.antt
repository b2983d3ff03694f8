pub mod Ladder
pub mod Kept
pub mod Rule
pub mod AtZero
