-- The laws that the proofs of other crates cite. All other proofs of this crate are its own.
pub mod Blanks
pub mod Coming
pub mod Hearings
pub mod Steps
