-- What no legal move undoes, and how the half-move counter shows it (FIDE Laws, Articles 9.2 and 9.3).
use Rattle.std.specs.Prelude.{ℕ, ◌≡◌, ◌<◌, ◌≤◌, ◌+◌, ◌-◌, ◌⊎◌, Some, None}
use Rattle.std.specs.List.{sum_by}
use Rattle.c960_board.specs.declared.piece.Colour.{Colour}
use Rattle.c960_board.specs.declared.piece.Colour.TheVariants.{White, Black}
use Rattle.c960_board.specs.declared.piece.Kind.{Kind}
use Rattle.c960_board.specs.declared.piece.Kind.TheVariants.{Pawn}
use Rattle.c960_board.specs.declared.parts.Parts.{Parts}
use Rattle.c960_board.specs.Squares.{rank_of}
use Rattle.c960_board.specs.Pieces.{Cell}
use Rattle.c960_board.specs.Cells.{cell_at}
use Rattle.c960_board.specs.Moves.{Triple}
use Rattle.c960_rules.specs.Lines.{squares}
use Rattle.c960_rules.specs.After.{after}

-- how many ranks are behind a square, in the direction of a side's pawns: 1 where they start, 7 where they are promoted
abbrev pub ranks_behind : Colour → ℕ → ℕ
ranks_behind White s = rank_of s
ranks_behind Black s = 7 - rank_of s

-- a pawn weighs the ranks behind it, 1 to 6, and every other piece 7
abbrev pub piece_weight : Kind → Colour → ℕ → ℕ
piece_weight Pawn c s = ranks_behind c s
piece_weight _ c s = 7

-- an empty square weighs more than any piece
abbrev pub weight : Cell → ℕ → ℕ
weight None s = 8
weight (Some p) s = piece_weight p.kind p.colour s

-- The weight of the whole board. A pawn's step adds to it, and so does a capture, which leaves a square empty. A move of
-- another piece to an empty square, and castling, exchange weights.
unfoldable pub progress : Parts → ℕ
progress p = sum_by (λ s. weight (cell_at p.placement s) s) squares

-- The move does not lower the progress, and either the half-move counter rises by one, or it restarts and the progress
-- rises.
pub record Advances (p : Parts) (m : Triple) : Type 0 where
  pub never_back : progress p ≤ progress (after p m)
  pub counted : ((after p m).half_moves ≡ p.half_moves + 1)
      ⊎ (((after p m).half_moves ≡ 0) × (progress p < progress (after p m)))
