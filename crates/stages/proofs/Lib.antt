pub mod Sizes
pub mod Kept
pub mod Regulating
pub mod Samples
pub mod SteppedFromBits
pub mod AtBench
