pub mod Phrases
pub mod Findings
pub mod Promised
