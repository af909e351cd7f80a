pub mod lemmas
mod OutcomeFacts
mod Bounds
mod EndFacts
mod CaptureFacts
mod SameFacts
mod PositionFacts
mod ReplayFacts
mod StretchFacts
mod CounterFacts
mod RecentFacts
mod MilestoneFacts
