pub mod Field
pub mod Promised
