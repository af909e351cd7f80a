-- When a game has an outcome by itself, and which one.
use Rattle.std.proofs.Common.{◌≡◌, ℕ, ◌<◌, ◌≤◌, List, ◌∷◌, ◌++◌, Option, Some, None, Bool, true, false, cond, refl, arith, ◌⊎◌, inl, inr}
use Rattle.std.specs.Prelude.{◌↔◌}
use Rattle.std.specs.Option.{option_or}
use Rattle.std.proofs.Math.Dec.{leb}
use Rattle.std.proofs.lemmas.Bool.{leb-true, leb-false, le-leb, lt-leb}
use Rattle.c960_board.specs.declared.parts.Parts.{Parts}
use Rattle.c960_board.specs.declared.piece.Colour.{Colour}
use Rattle.c960_board.specs.Moves.{Triple}
use Rattle.c960_board.specs.Pieces.{other}
use Rattle.c960_rules.specs.Legal.{Legal, Mate, Stale}
use Rattle.c960_game.specs.declared.outcome.Outcome.{Outcome}
use Rattle.c960_game.specs.declared.outcome.Outcome.TheVariants.{Checkmate, Stalemate, Fivefold, SeventyFive}
use Rattle.c960_game.specs.Draws.{draw_of, auto_outcome}
use Rattle.c960_game.specs.Ends.{outcome_of, own_outcome}
use Rattle.c960_game.specs.Game960.{Game960, GoesOn}
use Rattle.c960_game.specs.Positions.{last_position}
use Rattle.c960_game.specs.Times.{times}
use Rattle.c960_game.proofs.EndFacts as ends

-- ---- The draws by their numbers.

-- the draw, by the two tests
abbrev draw_by : Bool → Bool → Option Outcome
draw_by fivefold seventy_five = cond fivefold (Some Fivefold) (cond seventy_five (Some SeventyFive) None)

none_by : (a b : Bool) → draw_by a b ≡ None → (a ≡ false) × (b ≡ false)
none_by true b e = cc
none_by false true e = cc
none_by false false e = (refl, refl)

fivefold_by : (a b : Bool) → draw_by a b ≡ Some Fivefold → a ≡ true
fivefold_by true b e = refl
fivefold_by false true e = cc
fivefold_by false false e = cc

seventy_five_by : (a b : Bool) → draw_by a b ≡ Some SeventyFive → (a ≡ false) × (b ≡ true)
seventy_five_by true b e = cc
seventy_five_by false true e = (refl, refl)
seventy_five_by false false e = cc

-- a draw is one of the two
either_draw : (a b : Bool) (x : Outcome) → draw_by a b ≡ Some x → (x ≡ Fivefold) ⊎ (x ≡ SeventyFive)
either_draw true b x e = inl cc
either_draw false true x e = inr cc
either_draw false false x e = cc

-- no draw
no_draw : (t h : ℕ) → (draw_of t h ≡ None) ↔ ((t < 5) × (h < 150))
unfolding draw_of
no_draw t h = (
  λ e. let w = none_by (leb 5 t) (leb 150 h) e in (leb-false 5 t w.0, leb-false 150 h w.1),
  λ w. rw (lt-leb 5 t w.0, lt-leb 150 h w.1) refl,
)

fivefold_draw : (t h : ℕ) → (draw_of t h ≡ Some Fivefold) ↔ (5 ≤ t)
unfolding draw_of
fivefold_draw t h = (
  λ e. leb-true 5 t (fivefold_by (leb 5 t) (leb 150 h) e),
  λ w. rw (le-leb 5 t w) refl,
)

seventy_five_draw : (t h : ℕ) → (draw_of t h ≡ Some SeventyFive) ↔ ((t < 5) × (150 ≤ h))
unfolding draw_of
seventy_five_draw t h = (
  λ e. let w = seventy_five_by (leb 5 t) (leb 150 h) e in (leb-false 5 t w.0, leb-true 150 h w.1),
  λ w. rw (lt-leb 5 t w.0, le-leb 150 h w.1) refl,
)

some_draw : (t h : ℕ) (x : Outcome) → draw_of t h ≡ Some x → (x ≡ Fivefold) ⊎ (x ≡ SeventyFive)
unfolding draw_of
some_draw t h x e = either_draw (leb 5 t) (leb 150 h) x e

-- ---- One outcome or else another.

neither : (o d : Option Outcome) → option_or o d ≡ None → (o ≡ None) × (d ≡ None)
neither None d e = (refl, e)
neither (Some x) d e = cc

either : (o d : Option Outcome) (x : Outcome) → option_or o d ≡ Some x → (o ≡ Some x) ⊎ ((o ≡ None) × (d ≡ Some x))
either None d x e = inr (refl, e)
either (Some y) d x e = inl e

-- ---- A position with its number of appearances and its counter.

abbrev ending : Parts → ℕ → ℕ → Option Outcome
ending p t h = option_or (outcome_of p) (draw_of t h)

going_by : (p : Parts) (t h : ℕ) → (ending p t h ≡ None) ↔ (((m : Triple) × Legal p m) × (t < 5) × (h < 150))
going_by p t h = (
  λ e.
      let w = neither (outcome_of p) (draw_of t h) e in
      let v = (no_draw t h).0 w.1 in
      ((ends.going p).0 w.0, v.0, v.1),
  λ w. rw ((ends.going p).1 w.0) ((no_draw t h).1 (w.1, w.2)),
)

checkmate_by : (p : Parts) (t h : ℕ) (c : Colour) → (ending p t h ≡ Some (Checkmate c)) ↔ (Mate p × (c ≡ other p.turn))
checkmate_by p t h c = (
  λ e. elim (either (outcome_of p) (draw_of t h) (Checkmate c) e) [
    | inl here ↦ (ends.checkmate p c).0 here
    | inr drawn ↦ elim (some_draw t h (Checkmate c) drawn.1) [ inl five ↦ cc | inr seventy_five ↦ cc ]
  ],
  λ w. rw ((ends.checkmate p c).1 w) refl,
)

stalemate_by : (p : Parts) (t h : ℕ) → (ending p t h ≡ Some Stalemate) ↔ Stale p
stalemate_by p t h = (
  λ e. elim (either (outcome_of p) (draw_of t h) Stalemate e) [
    | inl here ↦ (ends.stalemate p).0 here
    | inr drawn ↦ elim (some_draw t h Stalemate drawn.1) [ inl five ↦ cc | inr seventy_five ↦ cc ]
  ],
  λ w. rw ((ends.stalemate p).1 w) refl,
)

-- no position is drawn by itself
undrawn : (p : Parts) (x : Outcome) → (x ≡ Fivefold) ⊎ (x ≡ SeventyFive) → outcome_of p ≡ Some x → ⊥
undrawn p x draw e = elim (ends.mate_or_stale p x e) [
  | inl mate ↦ elim draw [ inl five ↦ cc | inr seventy_five ↦ cc ]
  | inr stale ↦ elim draw [ inl five ↦ cc | inr seventy_five ↦ cc ]
]

-- a draw comes if there is a legal move
drawn_by : (p : Parts) (t h : ℕ) (x : Outcome) → (x ≡ Fivefold) ⊎ (x ≡ SeventyFive) → ending p t h ≡ Some x
    → ((m : Triple) × Legal p m) × (draw_of t h ≡ Some x)
drawn_by p t h x draw e = elim (either (outcome_of p) (draw_of t h) x e) [
  | inl here ↦ absurd (undrawn p x draw here)
  | inr drawn ↦ ((ends.going p).0 drawn.0, drawn.1)
]

fivefold_at : (p : Parts) (t h : ℕ) → (ending p t h ≡ Some Fivefold) ↔ (((m : Triple) × Legal p m) × (5 ≤ t))
fivefold_at p t h = (
  λ e. let w = drawn_by p t h Fivefold (inl refl) e in (w.0, (fivefold_draw t h).0 w.1),
  λ w. rw ((ends.going p).1 w.0) ((fivefold_draw t h).1 w.1),
)

seventy_five_at : (p : Parts) (t h : ℕ)
    → (ending p t h ≡ Some SeventyFive) ↔ (((m : Triple) × Legal p m) × (t < 5) × (150 ≤ h))
seventy_five_at p t h = (
  λ e.
      let w = drawn_by p t h SeventyFive (inr refl) e in
      let v = (seventy_five_draw t h).0 w.1 in
      (w.0, v.0, v.1),
  λ w. rw ((ends.going p).1 w.0) ((seventy_five_draw t h).1 (w.1, w.2)),
)

-- ---- A game.

-- it goes on if the side to move has a legal move, the position has not appeared five times, and the counter is below 150
pub going : (n : ℕ) (l : List Triple) → (own_outcome n l ≡ None)
    ↔ (((m : Triple) × Legal (last_position n l) m) × (times n l < 5) × ((last_position n l).half_moves < 150))
unfolding own_outcome auto_outcome
going n l = going_by (last_position n l) (times n l) (last_position n l).half_moves

-- this means that it is not over by itself
pub tells_going : (n : ℕ) (l : List Triple) → own_outcome n l ≡ None → GoesOn n l
tells_going n l e =
    let w = (going n l).0 e in
    record {
      no_mate = λ mate. mate.no_move w.0.0 w.0.1;
      no_stalemate = λ stale. stale.no_move w.0.0 w.0.1;
      no_fivefold = w.1;
      no_seventy_five = w.2;
    }

pub from_going : (n : ℕ) (l : List Triple) → GoesOn n l → own_outcome n l ≡ None
from_going n l g =
    let move = (ends.going (last_position n l)).0 (ends.neither (last_position n l) g.no_mate g.no_stalemate) in
    (going n l).1 (move, g.no_fivefold, g.no_seventy_five)

pub checkmate : (n : ℕ) (l : List Triple) (c : Colour) → (own_outcome n l ≡ Some (Checkmate c))
    ↔ (Mate (last_position n l) × (c ≡ other (last_position n l).turn))
unfolding own_outcome auto_outcome
checkmate n l c = checkmate_by (last_position n l) (times n l) (last_position n l).half_moves c

pub stalemate : (n : ℕ) (l : List Triple) → (own_outcome n l ≡ Some Stalemate) ↔ Stale (last_position n l)
unfolding own_outcome auto_outcome
stalemate n l = stalemate_by (last_position n l) (times n l) (last_position n l).half_moves

pub fivefold : (n : ℕ) (l : List Triple) → (own_outcome n l ≡ Some Fivefold)
    ↔ (((m : Triple) × Legal (last_position n l) m) × (5 ≤ times n l))
unfolding own_outcome auto_outcome
fivefold n l = fivefold_at (last_position n l) (times n l) (last_position n l).half_moves

pub seventy_five : (n : ℕ) (l : List Triple) → (own_outcome n l ≡ Some SeventyFive)
    ↔ (((m : Triple) × Legal (last_position n l) m) × (times n l < 5) × (150 ≤ (last_position n l).half_moves))
unfolding own_outcome auto_outcome
seventy_five n l = seventy_five_at (last_position n l) (times n l) (last_position n l).half_moves

-- in a game that goes on
pub going_bounds : (n : ℕ) (l : List Triple) → own_outcome n l ≡ None
    → ((last_position n l).half_moves < 150) × (times n l ≤ 4)
going_bounds n l e = let w = (going n l).0 e in (w.2, let few = w.1 in omega arith)

-- and before each move of a legal game
pub before_bounds : (n : ℕ) (l : List Triple) (m : Triple) (later : List Triple) → Game960 n (l ++ m ∷ later)
    → ((last_position n l).half_moves < 150) × (times n l ≤ 4)
before_bounds n l m later game = going_bounds n l (from_going n l (game.moves l m later refl).going)

-- with one move more
pub outcome_more : (n : ℕ) (l : List Triple) (next : Parts) → last_position n l ≡ next
    → own_outcome n l ≡ option_or (outcome_of next) (draw_of (times n l) next.half_moves)
unfolding own_outcome auto_outcome
outcome_more n l next e = rw e refl
