pub mod Laws
pub mod Cases
pub mod Early
pub mod Promises
