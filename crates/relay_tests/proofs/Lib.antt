pub mod Answered
mod Handed
pub mod Names
pub mod Told
