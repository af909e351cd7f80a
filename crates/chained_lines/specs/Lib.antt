pub mod Inner
pub mod Journals
pub mod Later
pub mod Left
pub mod Lines
pub mod Records
pub mod Storage
