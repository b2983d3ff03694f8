pub mod Sheet
pub mod Faults
pub mod Calls
pub mod Promised
