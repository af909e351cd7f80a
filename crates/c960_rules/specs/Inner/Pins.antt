-- Pins: what a set of squares says of the moves that leave them.
use Rattle.std.specs.Prelude.{ℕ, ◌≡◌, ◌≢◌, ◌<◌, true, false, bit_and, IsFalse}
use Rattle.c960_board.specs.declared.piece.Kind.TheVariants.{King}
use Rattle.c960_board.specs.declared.parts.Parts.{Parts}
use Rattle.c960_board.specs.Pieces.{holds}
use Rattle.c960_board.specs.Cells.{cell_at}
use Rattle.c960_board.specs.Moves.{Triple, IsMove}
use Rattle.c960_board.specs.Sets.{is_in}
use Rattle.c960_rules.specs.After.{placement_after, is_en_passant}
use Rattle.c960_rules.specs.Check.{InCheck}
use Rattle.c960_rules.specs.Lines.{between}
use Rattle.c960_rules.specs.Reaches.{Reaches}
use Rattle.c960_rules.specs.Inner.Wheres.{where_set}

-- the set has a square other than f
pub record HasOther (set f : ℕ) : Type 0 where
  pub square : ℕ
  pub on_board : square < 64
  pub inside : is_in set square ≡ true
  pub other : square ≢ f

-- the set has a square other than f, for each f that does not stand alone in it
pub record HasOthers (set alone : ℕ) : Type 0 where
  pub others : (f : ℕ) → f < 64 → is_in alone f ≡ false → HasOther set f

-- the occupied squares between the king and a slider
abbrev pub blockers : ℕ → ℕ → ℕ → ℕ
blockers king occupied s = bit_and (where_set (λ u. between king u s)) occupied

-- no king is on these squares, and no move from them exposes the king, but perhaps a capture en passant
pub record IsUnpinned (p : Parts) (set : ℕ) : Type 0 where
  pub no_king : (s : ℕ) → s < 64 → is_in set s ≡ true → IsFalse (holds p.turn King (cell_at p.placement s))
  pub safe : (m : Triple) → IsMove m → is_in set m.from ≡ true → Reaches p m → IsFalse (is_en_passant p m)
      → InCheck (placement_after p m) p.turn → ⊥

-- a move that goes elsewhere leaves the king in check, but perhaps the king's own and a capture en passant
pub record AreEvasions (p : Parts) (set : ℕ) : Type 0 where
  pub exposed : (m : Triple) → IsMove m → IsFalse (holds p.turn King (cell_at p.placement m.from)) → is_in set m.to ≡ false
      → Reaches p m → IsFalse (is_en_passant p m) → InCheck (placement_after p m) p.turn
