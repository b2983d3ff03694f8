pub mod Program
pub mod Streaming
pub mod Promised
pub mod Feeds
