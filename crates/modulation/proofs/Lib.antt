pub mod Sectors
pub mod Shares
pub mod Clipping
pub mod Compares
pub mod Angle
pub mod Cases
pub mod Sizes
pub mod AtBench
