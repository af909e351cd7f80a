pub mod Inner
pub mod Meeting
pub mod Others
pub mod Passing
