pub mod Moments
pub mod Recordings
pub mod Promised
