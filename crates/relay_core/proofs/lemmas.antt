-- The laws that the proofs of other crates cite. All other proofs of this crate are its own.
pub mod Ended
pub mod Followed
pub mod Grounds
pub mod Leaves
pub mod Lists
pub mod Names
pub mod Opened
pub mod Orders
pub mod Refusals
pub mod Refused
pub mod Standing
pub mod Stretches
pub mod Submits
pub mod Takes
