-- The laws that the proofs of other crates cite. All other proofs of this crate are its own.
pub mod AfterFacts
pub mod AttackTests
pub mod Contained
pub mod CounterLaws
pub mod CounterSteps
pub mod Listed
pub mod MoveTests
pub mod PieceFacts
pub mod ProgressLaws
pub mod Reached
pub mod StartFacts
