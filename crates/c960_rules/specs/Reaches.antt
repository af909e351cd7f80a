-- Ordinary moves: where a piece may go by its kind, without castling and without regard to the safety of its king (FIDE Laws,
-- Articles 3.1 to 3.8.1).
use Rattle.std.specs.Prelude.{ℕ, ◌≡◌, ◌≢◌, ◌⊎◌, Bool, false, ◌==◌, Option, Some, None, IsTrue, IsFalse, IsSome}
use Rattle.c960_board.specs.declared.piece.Colour.{Colour}
use Rattle.c960_board.specs.declared.piece.Colour.TheVariants.{White, Black}
use Rattle.c960_board.specs.declared.piece.Kind.{Kind}
use Rattle.c960_board.specs.declared.piece.Kind.TheVariants.{Pawn}
use Rattle.c960_board.specs.declared.parts.Parts.{Parts}
use Rattle.c960_board.specs.Squares.{rank_of, home_rank, ahead}
use Rattle.c960_board.specs.Pieces.{man, other, is_of}
use Rattle.c960_board.specs.Cells.{cell_at}
use Rattle.c960_board.specs.Moves.{Triple}
use Rattle.c960_rules.specs.Lines.{same_file}
use Rattle.c960_rules.specs.Attacks.{IsForward, Attacks}

-- the rank on which a side's pawns are at the start: rank 2 and rank 7 (1 and 6, counted from 0)
abbrev pub pawn_rank : Colour → ℕ
pawn_rank White = 1
pawn_rank Black = 6

-- the rank on which a side's pawns are promoted
abbrev pub last_rank : Colour → ℕ
last_rank c = home_rank (other c)

-- an officer, a piece that is not a pawn, goes to a square that it attacks (3.2 to 3.6, 3.8.1)
pub record GoesAsOfficer (p : Parts) (m : Triple) : Type 0 where
  pub kind : Kind
  pub officer : kind ≢ Pawn
  pub mover : cell_at p.placement m.from ≡ man p.turn kind
  pub attack : Attacks p.placement m.from m.to
  pub no_promotion : m.promotion ≡ None

-- one square forward onto an empty square (3.7.1)
pub record Steps (p : Parts) (m : Triple) : Type 0 where
  pub file : IsTrue (same_file m.from m.to)
  pub forward : IsForward p.turn m.from m.to
  pub empty : cell_at p.placement m.to ≡ None

-- two squares forward from the pawns' rank, both empty (3.7.2)
pub record StepsTwice (p : Parts) (m : Triple) : Type 0 where
  pub first : rank_of m.from ≡ pawn_rank p.turn
  pub goal : m.to ≡ ahead p.turn (ahead p.turn m.from)
  pub passed : cell_at p.placement (ahead p.turn m.from) ≡ None
  pub empty : cell_at p.placement m.to ≡ None

-- diagonally forward onto an enemy piece (3.7.3), or onto the en passant target (3.7, en passant)
pub record Takes (p : Parts) (m : Triple) : Type 0 where
  pub attack : Attacks p.placement m.from m.to
  pub prey : IsTrue (is_of (other p.turn) (cell_at p.placement m.to)) ⊎ (p.target ≡ Some m.to)

-- a promotion is named exactly if the pawn reaches its last rank (3.7, promotion)
pub record PromotesRightly (p : Parts) (m : Triple) : Type 0 where
  pub last : rank_of m.to ≡ last_rank p.turn → IsSome m.promotion
  pub others : rank_of m.to ≢ last_rank p.turn → m.promotion ≡ None

pub record GoesAsPawn (p : Parts) (m : Triple) : Type 0 where
  pub mover : cell_at p.placement m.from ≡ man p.turn Pawn
  pub way : Steps p m ⊎ (StepsTwice p m ⊎ Takes p m)
  pub promotion : PromotesRightly p m

-- a piece of the side to move goes to a square that holds no piece of that side
pub record Reaches (p : Parts) (m : Triple) : Type 0 where
  pub goal : IsFalse (is_of p.turn (cell_at p.placement m.to))
  pub goes : GoesAsOfficer p m ⊎ GoesAsPawn p m

abbrev pub is_target : Option ℕ → ℕ → Bool
is_target None t = false
is_target (Some u) t = u == t
