-- What only the code and its proofs use. Readers of the promises need none of it.
pub mod Conditions
pub mod SetsWith
pub mod PieceLetters
pub mod RankShape
