-- The lemmas on the written text.
pub mod Steps
pub mod SideRights
pub mod Lengths
pub mod Ranks
pub mod Rights
pub mod Fields
pub mod Laws
pub mod RankCells
pub mod RankShape
pub mod RankMarks
pub mod RankBits
pub mod Spread
pub mod PieceLetters
pub mod Told
