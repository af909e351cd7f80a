pub mod PerftFacts
