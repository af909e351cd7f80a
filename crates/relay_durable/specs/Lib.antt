pub mod Inner
pub mod Keeping
pub mod Record
