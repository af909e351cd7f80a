-- A position has an outcome by itself exactly if it is mate or stalemate.
use Rattle.std.proofs.Common.{◌≡◌, List, [], ◌∷◌, length, Option, Some, None, Bool, true, false, cond, refl, sym, subst, ◌∙◌, ◌⊎◌, inl, inr}
use Rattle.std.specs.Prelude.{◌==◌, ◌↔◌}
use Rattle.std.specs.List.{Contains}
use Rattle.std.proofs.Math.Dec.{eqb-suc-zero}
use Rattle.c960_board.specs.declared.parts.Parts.{Parts}
use Rattle.c960_board.specs.declared.piece.Colour.{Colour}
use Rattle.c960_board.specs.Moves.{Triple}
use Rattle.c960_board.specs.Pieces.{other}
use Rattle.c960_rules.specs.Check.{InCheck}
use Rattle.c960_rules.specs.Tests.Check.{in_check}
use Rattle.c960_rules.specs.Legal.{Legal, Mate, Stale}
use Rattle.c960_rules.specs.Tests.Legal.{legal_list}
use Rattle.c960_rules.proofs.lemmas.AttackTests.{check_tells, check_from}
use Rattle.c960_rules.proofs.lemmas.Contained.{in_first}
use Rattle.c960_rules.proofs.lemmas.Listed.{listed_only, empty_none}
use Rattle.c960_game.specs.declared.outcome.Outcome.{Outcome}
use Rattle.c960_game.specs.declared.outcome.Outcome.TheVariants.{Checkmate, Stalemate}
use Rattle.c960_game.specs.Ends.{outcome_of}

-- the outcome by the list of legal moves, whether the king is attacked, and the side to move
abbrev outcome_by : List Triple → Bool → Colour → Option Outcome
outcome_by moves check turn = cond (length moves == 0) (Some (cond check (Checkmate (other turn)) Stalemate)) None

-- with a move in the list there is no outcome
none_by : (m : Triple) (moves : List Triple) (check : Bool) (turn : Colour) → outcome_by (m ∷ moves) check turn ≡ None
none_by m moves check turn = rw (eqb-suc-zero (length moves)) refl

-- nor any particular outcome
not_by : (m : Triple) (moves : List Triple) (check : Bool) (turn : Colour) (outcome : Outcome)
    → outcome_by (m ∷ moves) check turn ≡ Some outcome → ⊥
not_by m moves check turn outcome e = let never : None ≡ Some outcome = sym (none_by m moves check turn) ∙ e in cc

-- these are the legal moves of the position, and this is whether its king is attacked
record IsSeen (p : Parts) (moves : List Triple) (check : Bool) : Type 0 where
  listed : legal_list p ≡ moves
  checked : in_check p.placement p.turn ≡ check

-- the first move of the list is legal
first_legal : (p : Parts) (m : Triple) (moves : List Triple) (check : Bool) → IsSeen p (m ∷ moves) check → Legal p m
first_legal p m moves check seen =
    listed_only p m (subst (λ ms. Contains ms m) (sym seen.listed) (in_first m moves))

-- without moves in the list there is no legal move
none_legal : (p : Parts) (check : Bool) → IsSeen p [] check → (m : Triple) → Legal p m → ⊥
none_legal p check seen m legal = empty_none p seen.listed (m, legal)

-- the king is attacked
attacked : (p : Parts) (moves : List Triple) → IsSeen p moves true → InCheck p.placement p.turn
attacked p moves seen = check_tells p.placement p.turn seen.checked

-- the king is not attacked
safe : (p : Parts) (moves : List Triple) → IsSeen p moves false → InCheck p.placement p.turn → ⊥
safe p moves seen check =
    let never : false ≡ true = sym seen.checked ∙ check_from p.placement p.turn check in cc

-- ---- No outcome.

going_tells_by : (p : Parts) (moves : List Triple) (check : Bool) → IsSeen p moves check
    → outcome_by moves check p.turn ≡ None → (m : Triple) × Legal p m
going_tells_by p [] check seen e = cc
going_tells_by p (m ∷ moves) check seen e = (m, first_legal p m moves check seen)

going_from_by : (p : Parts) (moves : List Triple) (check : Bool) → IsSeen p moves check → (m : Triple) × Legal p m
    → outcome_by moves check p.turn ≡ None
going_from_by p [] check seen w = absurd (none_legal p check seen w.0 w.1)
going_from_by p (m ∷ moves) check seen w = none_by m moves check p.turn

-- ---- Checkmate.

mate_tells_by : (p : Parts) (c : Colour) (moves : List Triple) (check : Bool) → IsSeen p moves check
    → outcome_by moves check p.turn ≡ Some (Checkmate c) → Mate p × (c ≡ other p.turn)
mate_tells_by p c [] true seen e =
    (record { no_move = none_legal p true seen; check = attacked p [] seen }, cc)
mate_tells_by p c [] false seen e = cc
mate_tells_by p c (m ∷ moves) check seen e = absurd (not_by m moves check p.turn (Checkmate c) e)

mate_from_by : (p : Parts) (moves : List Triple) (check : Bool) → IsSeen p moves check → Mate p
    → outcome_by moves check p.turn ≡ Some (Checkmate (other p.turn))
mate_from_by p [] true seen mate = refl
mate_from_by p [] false seen mate = absurd (safe p [] seen mate.check)
mate_from_by p (m ∷ moves) check seen mate = absurd (mate.no_move m (first_legal p m moves check seen))

-- ---- Stalemate.

stale_tells_by : (p : Parts) (moves : List Triple) (check : Bool) → IsSeen p moves check
    → outcome_by moves check p.turn ≡ Some Stalemate → Stale p
stale_tells_by p [] true seen e = cc
stale_tells_by p [] false seen e = record { no_move = none_legal p false seen; no_check = safe p [] seen }
stale_tells_by p (m ∷ moves) check seen e = absurd (not_by m moves check p.turn Stalemate e)

stale_from_by : (p : Parts) (moves : List Triple) (check : Bool) → IsSeen p moves check → Stale p
    → outcome_by moves check p.turn ≡ Some Stalemate
stale_from_by p [] true seen stale = absurd (stale.no_check (attacked p [] seen))
stale_from_by p [] false seen stale = refl
stale_from_by p (m ∷ moves) check seen stale = absurd (stale.no_move m (first_legal p m moves check seen))

-- ---- The outcome of a position.

seen_here : (p : Parts) → IsSeen p (legal_list p) (in_check p.placement p.turn)
seen_here p = record { listed = refl; checked = refl }

-- a position with a legal move has no outcome, and no other
pub going : (p : Parts) → (outcome_of p ≡ None) ↔ ((m : Triple) × Legal p m)
unfolding outcome_of
going p = (
  λ e. going_tells_by p (legal_list p) (in_check p.placement p.turn) (seen_here p) e,
  λ w. going_from_by p (legal_list p) (in_check p.placement p.turn) (seen_here p) w,
)

pub mate_from : (p : Parts) → Mate p → outcome_of p ≡ Some (Checkmate (other p.turn))
unfolding outcome_of
mate_from p mate = mate_from_by p (legal_list p) (in_check p.placement p.turn) (seen_here p) mate

-- a mated position, and no other, has the outcome that the other side mates
pub checkmate : (p : Parts) (c : Colour) → (outcome_of p ≡ Some (Checkmate c)) ↔ (Mate p × (c ≡ other p.turn))
unfolding outcome_of
checkmate p c = (
  λ e. mate_tells_by p c (legal_list p) (in_check p.placement p.turn) (seen_here p) e,
  λ w. subst (λ (d : Colour). outcome_of p ≡ Some (Checkmate d)) (sym w.1) (mate_from p w.0),
)

-- a stalemated position, and no other, has the outcome stalemate
pub stalemate : (p : Parts) → (outcome_of p ≡ Some Stalemate) ↔ Stale p
unfolding outcome_of
stalemate p = (
  λ e. stale_tells_by p (legal_list p) (in_check p.placement p.turn) (seen_here p) e,
  λ w. stale_from_by p (legal_list p) (in_check p.placement p.turn) (seen_here p) w,
)

-- ---- No other outcome.

mate_or_stale_by : (a b : Bool) (c : Colour) (x : Outcome) → cond a (Some (cond b (Checkmate c) Stalemate)) None ≡ Some x
    → (x ≡ Checkmate c) ⊎ (x ≡ Stalemate)
mate_or_stale_by true true c x e = inl cc
mate_or_stale_by true false c x e = inr cc
mate_or_stale_by false b c x e = cc

-- an outcome of a position is one of the two
pub mate_or_stale : (p : Parts) (x : Outcome) → outcome_of p ≡ Some x → (x ≡ Checkmate (other p.turn)) ⊎ (x ≡ Stalemate)
unfolding outcome_of
mate_or_stale p x e = mate_or_stale_by (length (legal_list p) == 0) (in_check p.placement p.turn) (other p.turn) x e

-- a position that is neither mate nor stalemate has none
neither_by : (p : Parts) (o : Option Outcome) → outcome_of p ≡ o → (Mate p → ⊥) → (Stale p → ⊥) → outcome_of p ≡ None
neither_by p None e no_mate no_stalemate = e
neither_by p (Some x) e no_mate no_stalemate = elim (mate_or_stale p x e) [
  | inl mates ↦ absurd (no_mate ((checkmate p (other p.turn)).0 (subst (λ (y : Outcome). outcome_of p ≡ Some y) mates e)).0)
  | inr stale ↦ absurd (no_stalemate ((stalemate p).0 (subst (λ (y : Outcome). outcome_of p ≡ Some y) stale e)))
]

pub neither : (p : Parts) → (Mate p → ⊥) → (Stale p → ⊥) → outcome_of p ≡ None
neither p no_mate no_stalemate = neither_by p (outcome_of p) refl no_mate no_stalemate
