-- Squares off the first and the last rank, where a pawn may be.
use Rattle.std.proofs.Common.{◌≡◌, ◌≢◌, ℕ, ◌<◌, ◌≤◌, true, inl, inr, arith}
use Rattle.c960_board.specs.declared.piece.Kind.TheVariants.{Pawn}
use Rattle.c960_board.specs.declared.parts.Parts.{Parts}
use Rattle.c960_board.specs.Squares.{rank_of}
use Rattle.c960_board.specs.Pieces.{holds}
use Rattle.c960_board.specs.Position.{IsPosition}
use Rattle.c960_board.specs.Cells.{cell_at}
use Rattle.c960_rules.proofs.lemmas.PieceFacts.{holds_is}

-- a square off both end ranks
pub record IsInner (s : ℕ) : Type 0 where
  pub low : 8 ≤ s
  pub high : s < 56

-- a pawn is on neither end rank
pub pawn_inner : (p : Parts) (s : ℕ) → IsPosition p → s < 64 → holds p.turn Pawn (cell_at p.placement s) ≡ true
    → IsInner s
pawn_inner p s valid l h =
    let pawn = holds_is p.turn Pawn (cell_at p.placement s) h in
    let first : rank_of s ≢ 0 = λ e. valid.placement.no_end_pawn p.turn s l (inl e) pawn in
    let last : rank_of s ≢ 7 = λ e. valid.placement.no_end_pawn p.turn s l (inr e) pawn in
    record { low = omega arith; high = omega arith }
