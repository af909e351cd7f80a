-- The placement's text: eight ranks from the eighth to the first, separated by slashes.
use Rattle.std.specs.Prelude.{ℕ, zero, suc, ◌≡◌, ◌≤◌, ◌+◌, ◌*◌, ◌⊎◌, List, [], ◌∷◌, ◌++◌, Some, None, Bool, true, false, IsFalse, length, take, drop}
use Rattle.c960_board.specs.declared.piece.Piece.{Piece}
use Rattle.c960_board.specs.Pieces.{Cell}
use Rattle.c960_board.specs.Position.{IsPlacement}
use Rattle.c960_board.specs.Fen.Letters.{letter}

-- n empty squares
abbrev pub empties : ℕ → List Cell
empties zero = []
empties (suc n) = None ∷ empties n

-- The text spells the squares, file by file: a piece by its letter, a run of 1 to 8 empty squares by its digit.
-- `after_digit` says that the byte just before is a digit; then no digit may follow.
abbrev pub SpellsSquares : Bool → List ℕ → List Cell → Type 0
SpellsSquares after_digit [] cells = cells ≡ []
SpellsSquares after_digit (b ∷ bs) cells =
    ((p : Piece) × (more : List Cell) × (b ≡ letter p) × (cells ≡ Some p ∷ more) × SpellsSquares false bs more)
    ⊎ ((n : ℕ) × (more : List Cell) × IsFalse after_digit × (1 ≤ n) × (n ≤ 8) × (b ≡ 48 + n) × (cells ≡ empties n ++ more) × SpellsSquares true bs more)

-- eight squares, from file a to file h
pub record SpellsRank (text : List ℕ) (cells : List Cell) : Type 0 where
  pub spelt : SpellsSquares false text cells
  pub full : length cells ≡ 8

-- the cells of the ranks 1 to n + 1, the highest rank first, separated by slashes
abbrev pub SpellsRanks : ℕ → List ℕ → List Cell → Type 0
SpellsRanks zero text cells = SpellsRank text cells
SpellsRanks (suc n) text cells =
    (high : List ℕ) × (low : List ℕ) × (text ≡ high ++ 47 ∷ low) × SpellsRank high (drop (8 * suc n) cells) × SpellsRanks n low (take (8 * suc n) cells)

-- the field of a placement that a position can have
pub record IsPlacementField (text : List ℕ) (cells : List Cell) : Type 0 where
  pub ranks : SpellsRanks 7 text cells
  pub placement : IsPlacement cells
