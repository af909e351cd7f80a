pub mod Copies
pub mod Inner
pub mod Telling
pub mod Connections
