pub mod Fact
pub mod RegulatedFromBits
pub mod Limits
pub mod AtBench
