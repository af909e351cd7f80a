-- An ordinary move changes the placement as every move does.
use Rattle.std.proofs.Common.{◌≡◌, ◌≢◌, ℕ, ◌<◌, true, false, refl, sym, ◌∙◌, ap, Option, None, ◌⊎◌, inl, inr}
use Rattle.std.proofs.lemmas.Bool.{both_ways}
use Rattle.c960_board.specs.declared.piece.Colour.{Colour}
use Rattle.c960_board.specs.declared.piece.Kind.{Kind}
use Rattle.c960_board.specs.declared.piece.Kind.TheVariants.{Pawn, King}
use Rattle.c960_board.specs.Moves.{Triple}
use Rattle.c960_board.specs.declared.parts.Parts.{Parts}
use Rattle.c960_board.specs.Pieces.{Cell, man, other}
use Rattle.c960_board.specs.Squares.{ahead}
use Rattle.c960_rules.specs.After.{landed, is_en_passant, cell_after}
use Rattle.c960_rules.proofs.lemmas.PieceFacts.{piece_on, goes_to_own, no_man, one_kind, is_own}
use Rattle.c960_rules.proofs.CellFacts.{IsPassed, moved_cases, landing}
use Rattle.c960_rules.proofs.Change.{HasKing, Came, IsChange}

-- what an ordinary move from a lawful position keeps to
pub record IsOrdinary (p : Parts) (m : Triple) : Type 0 where
  pub kind : Kind
  pub mover : piece_on p m.from ≡ man p.turn kind
  pub free : goes_to_own p m ≡ false
  pub to_in : m.to < 64
  pub plain : kind ≢ Pawn → m.promotion ≡ None
  pub arrives : (c : Colour) (k : Kind) → landed (piece_on p m.from) m.promotion ≡ man c k → Came p m m.to c k
  pub spares : piece_on p m.to ≢ man (other p.turn) King
  pub passed : is_en_passant p m ≡ true → piece_on p (ahead (other p.turn) m.to) ≡ man (other p.turn) Pawn

-- without a promotion the mover lands
pub landed_plain : (o : Cell) (k : Option Kind) → k ≡ None → landed o k ≡ o
landed_plain o k e = rw e refl

-- a pawn taken en passant is not an officer
not_passed : (p : Parts) (m : Triple) (u : ℕ) (c : Colour) (k : Kind) → IsOrdinary p m → IsPassed p m u → k ≢ Pawn
    → piece_on p u ≡ man c k → ⊥
not_passed p m u c k r w officer is =
    let pawn = r.passed w.en_passant in
    let square = ap (λ (s : ℕ). piece_on p s) w.square in
    officer (one_kind c (other p.turn) k Pawn (sym is ∙ square ∙ pawn))

-- officers off the two squares of the move stay
stays : (p : Parts) (m : Triple) (r : IsOrdinary p m) (u : ℕ) (c : Colour) (k : Kind) → k ≢ Pawn → u ≢ m.from → u ≢ m.to
    → piece_on p u ≡ man c k → cell_after p m u ≡ man c k
stays p m r u c k officer off_from off_to is =
    elim (moved_cases p m u r.free) [
      | inl w ↦ absurd (off_to w.square)
      | inr (inl w) ↦ elim w.square [
        | inl from ↦ absurd (off_from from)
        | inr passed ↦ absurd (not_passed p m u c k r passed officer is)
      ]
      | inr (inr w) ↦ w.holds ∙ is
    ]

-- what is on a square was there or came
came : (p : Parts) (m : Triple) (r : IsOrdinary p m) (u : ℕ) (c : Colour) (k : Kind) → cell_after p m u ≡ man c k
    → (piece_on p u ≡ man c k) ⊎ Came p m u c k
came p m r u c k is =
    elim (moved_cases p m u r.free) [
      | inl w ↦ inr (let at : u ≡ m.to = w.square in rw at (r.arrives c k (sym w.holds ∙ is)))
      | inr (inl w) ↦ absurd (no_man c k (sym w.holds ∙ is))
      | inr (inr w) ↦ inl (sym w.holds ∙ is)
    ]

-- a king that moves is on the square that it moved to, and nowhere else
king_moved : (p : Parts) (m : Triple) (r : IsOrdinary p m) → HasKing (piece_on p) p.turn → m.from < 64 → r.kind ≡ King
    → HasKing (cell_after p m) p.turn
king_moved p m r h from_in king =
    let officer : r.kind ≢ Pawn = λ e. cc in
    let mover = r.mover in
    let was : piece_on p m.from ≡ man p.turn King = cc in
    let lands = landed_plain (piece_on p m.from) m.promotion (r.plain officer) in
    record {
      square = m.to;
      on_board = r.to_in;
      stands = landing p m r.free ∙ lands ∙ was;
      only = λ u l is. elim (moved_cases p m u r.free) [
        | inl w ↦ w.square
        | inr (inl w) ↦ absurd (no_man p.turn King (sym w.holds ∙ is))
        | inr (inr w) ↦ absurd (w.off_from (h.only u l (sym w.holds ∙ is) ∙ sym (h.only m.from from_in was)))
      ];
    }

-- an ordinary move is a change as every move is
pub ordinary_change : (p : Parts) (m : Triple) → IsOrdinary p m → HasKing (piece_on p) p.turn → m.from < 64
    → IsChange p m (cell_after p m)
ordinary_change p m r h from_in = record {
  kind = r.kind;
  mover = r.mover;
  stays = λ u c k l. stays p m r u c k;
  came = λ u c k l. came p m r u c k;
  king = king_moved p m r h from_in;
  spares_other = r.spares;
  spares_own = λ _ e. both_ways (goes_to_own p m) r.free (is_own p.turn King (piece_on p m.to) e);
}
