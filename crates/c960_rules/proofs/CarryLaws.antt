-- What an ordinary move does to the pieces of its own side.
use Rattle.std.proofs.Common.{◌≡◌, ◌≢◌, ℕ, refl, sym, ◌∙◌, ap, Option, Some, None, inl, inr}
use Rattle.std.proofs.lemmas.Bool.{both_ways}
use Rattle.c960_board.specs.declared.piece.Colour.{Colour}
use Rattle.c960_board.specs.declared.piece.Kind.{Kind}
use Rattle.c960_board.specs.declared.parts.Parts.{Parts}
use Rattle.c960_board.specs.Pieces.{Cell, man}
use Rattle.c960_board.specs.Position.{IsPosition}
use Rattle.c960_board.specs.Moves.{Triple, IsMove}
use Rattle.c960_rules.specs.Check.{IsLawful}
use Rattle.c960_rules.specs.Reaches.{Reaches}
use Rattle.c960_rules.specs.After.{landed, cell_after}
use Rattle.c960_rules.specs.Effects.{CarriesOne}
use Rattle.c960_rules.proofs.lemmas.PieceFacts.{piece_on, goes_to_own, no_man, is_own}
use Rattle.c960_rules.proofs.CellFacts.{IsPassed, moved_cases, landing}
use Rattle.c960_rules.proofs.Ordinary.{IsOrdinary, landed_plain}
use Rattle.c960_rules.proofs.lemmas.Reached.{ordinary}
use Rattle.c960_rules.proofs.TargetKept.{from_empty}
use Rattle.c960_rules.proofs.MoveLaws.{stands_after, not_both}

-- a piece of the colour becomes that piece
lands_as : (o : Cell) (q : Option Kind) (c : Colour) (j k : Kind) → o ≡ man c j → q ≡ Some k → landed o q ≡ man c k
lands_as o q c j k e f = rw (e, f) refl

-- no piece of the mover's is on the goal
pub goal_free : (p : Parts) (m : Triple) (u : ℕ) (k : Kind) → IsOrdinary p m → piece_on p u ≡ man p.turn k → u ≢ m.to
goal_free p m u k r is e =
    let here = ap (λ (s : ℕ). piece_on p s) (sym e) ∙ is in
    both_ways (goes_to_own p m) r.free (is_own p.turn k (piece_on p m.to) here)

-- the pawn that is taken en passant is not the mover's
passed_other : (p : Parts) (m : Triple) (u : ℕ) (k : Kind) → IsOrdinary p m → piece_on p u ≡ man p.turn k
    → IsPassed p m u → ⊥
passed_other p m u k r is w =
    not_both p k _ (sym is ∙ ap (λ (s : ℕ). piece_on p s) w.square ∙ r.passed w.en_passant)

-- the square that the piece leaves is empty
from_left : (p : Parts) (m : Triple) → IsOrdinary p m → cell_after p m m.from ≡ None
from_left p m r = from_empty p m r.free (goal_free p m m.from r.kind r r.mover)

-- another piece of the mover's stays
own_stays : (p : Parts) (m : Triple) (u : ℕ) (k : Kind) → IsOrdinary p m → u ≢ m.from → piece_on p u ≡ man p.turn k
    → cell_after p m u ≡ man p.turn k
own_stays p m u k r off is =
    elim (moved_cases p m u r.free) [
      | inl w ↦ absurd (goal_free p m u k r is w.square)
      | inr (inl w) ↦ absurd (elim w.square [ inl e ↦ off e | inr e ↦ passed_other p m u k r is e ])
      | inr (inr w) ↦ w.holds ∙ is
    ]

-- away from the goal a piece of the mover's was where it is
own_stood : (p : Parts) (m : Triple) (u : ℕ) (k : Kind) → IsOrdinary p m → u ≢ m.to → cell_after p m u ≡ man p.turn k
    → piece_on p u ≡ man p.turn k
own_stood p m u k r off is =
    elim (moved_cases p m u r.free) [
      | inl w ↦ absurd (off w.square)
      | inr (inl w) ↦ absurd (no_man p.turn k (sym w.holds ∙ is))
      | inr (inr w) ↦ sym w.holds ∙ is
    ]

-- an ordinary move carries one piece of its side
pub carries_one : (p : Parts) (m : Triple) → IsPosition p → IsLawful p → IsMove m → Reaches p m → CarriesOne p m
carries_one p m valid lawful move w =
    let r = ordinary p m valid lawful move w in
    let lands = stands_after p m m.to move.to ∙ landing p m r.free in
    record {
      arrives = λ e. lands ∙ landed_plain (piece_on p m.from) m.promotion e;
      becomes = λ k e. lands ∙ lands_as (piece_on p m.from) m.promotion p.turn r.kind k r.mover e;
      left = stands_after p m m.from move.from ∙ from_left p m r;
      stay = λ u k l off is. stands_after p m u l ∙ own_stays p m u k r off is;
      stood = λ u k l off is. own_stood p m u k r off (sym (stands_after p m u l) ∙ is);
    }
