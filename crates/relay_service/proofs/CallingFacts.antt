-- The lemmas on an operator's connection alone.
pub mod Answering
pub mod Arriving
pub mod Connections
pub mod Deeds
pub mod Digests
pub mod Handing
pub mod Hearing
pub mod Keying
pub mod Owning
pub mod Sending
pub mod Serving
pub mod Stepping
