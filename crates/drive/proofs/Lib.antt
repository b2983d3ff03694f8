pub mod Kept
pub mod CallLaws
pub mod AtBench
