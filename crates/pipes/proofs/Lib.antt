pub mod Fronts
pub mod Turns
