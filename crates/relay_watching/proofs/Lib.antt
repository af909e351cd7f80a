pub mod Promises
pub mod Progresses
pub mod Boundaries
pub mod Wires
pub mod Audiences
pub mod Holdings
pub mod Readings
