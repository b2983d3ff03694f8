pub mod Parts
pub mod Pieces
pub mod Meaning
pub mod Whole
pub mod Upto
pub mod Telling
