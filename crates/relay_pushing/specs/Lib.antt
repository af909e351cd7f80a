pub mod Sending
pub mod Pushing
pub mod Connections
