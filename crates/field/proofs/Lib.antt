pub mod FieldLaws
pub mod Cases
pub mod FieldFromBits
pub mod FieldRanges
pub mod AtBench
pub mod Arriving
pub mod FromRest
pub mod Turns
