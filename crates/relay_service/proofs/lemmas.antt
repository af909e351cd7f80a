-- The laws that the proofs of other crates cite. All other proofs of this crate are its own.
pub mod Others
