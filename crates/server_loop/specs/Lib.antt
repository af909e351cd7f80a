pub mod Backoff
pub mod Deadlines
pub mod RunQueue
pub mod Socket
