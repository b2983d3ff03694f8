pub mod Lines
pub mod Feeding
pub mod Feeds
