-- Shredder-FEN: the text of a position. `Text` is the grammar, `Canonical` the one text that is written.
pub mod Letters
pub mod Fields
pub mod Placement
pub mod Rights
pub mod Target
pub mod Counters
pub mod Text
pub mod Faults
pub mod Reading
pub mod Canonical
pub mod RankCells
