pub mod EndFacts
mod Meeting
mod Opening
