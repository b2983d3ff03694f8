pub mod Products
pub mod FrameLaws
pub mod Cases
pub mod RotorFromBits
pub mod StatorFromBits
pub mod AtBench
