-- What only the code and its proofs use. Readers of the promises need none of it.
pub mod KeptPositions
pub mod Replay
pub mod Replaying
