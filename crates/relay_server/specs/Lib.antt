pub mod Shared
pub mod Talking
