-- The laws that the proofs of other crates cite. All other proofs of this crate are its own.
pub mod Colours
pub mod LowestFacts
pub mod MoveReading
pub mod Ranges
pub mod SetCells
pub mod SetFacts
pub mod StartFacts
pub mod Tests
