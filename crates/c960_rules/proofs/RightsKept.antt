-- The rights that a move leaves still have their king and rook.
use Rattle.std.proofs.Common.{◌≡◌, ◌≢◌, ℕ, ◌<◌, List, true, not, refl, sym, ◌∙◌, inl, inr, length}
use Rattle.std.specs.Prelude.{◌==◌}
use Rattle.std.proofs.lemmas.Bool.{and_parts, not-true, eqb-false, both_ways}
use Rattle.c960_board.specs.declared.piece.Colour.{Colour}
use Rattle.c960_board.specs.declared.piece.Kind.TheVariants.{Pawn, Rook, King}
use Rattle.c960_board.specs.declared.rights.CastlingRights.{CastlingRights}
use Rattle.c960_board.specs.declared.parts.Parts.{Parts}
use Rattle.c960_board.specs.Squares.{home_square}
use Rattle.c960_board.specs.Pieces.{Cell, man, holds}
use Rattle.c960_board.specs.Position.{AreRights}
use Rattle.c960_board.specs.Cells.{cell_at, rights_of, has_right}
use Rattle.c960_board.specs.Moves.{Triple}
use Rattle.c960_rules.specs.After.{keeps_right}
use Rattle.c960_rules.proofs.lemmas.PieceFacts.{piece_on, is_holds}
use Rattle.c960_rules.proofs.Change.{IsChange}
use Rattle.c960_rules.proofs.CastlingFacts.{home_in}

-- a right that is kept
pub record IsKept (p : Parts) (m : Triple) (c : Colour) (f : ℕ) : Type 0 where
  pub had : has_right p.rights c f ≡ true
  pub still : piece_on p m.from ≢ man c King
  pub off_from : home_square c f ≢ m.from
  pub off_to : home_square c f ≢ m.to

-- what the test of a kept right says
pub kept : (p : Parts) (m : Triple) (c : Colour) (f : ℕ) → keeps_right p m c f ≡ true → IsKept p m c f
unfolding keeps_right
kept p m c f h =
    let had = and_parts (has_right p.rights c f) _ h in
    let still = and_parts (not (holds c King (piece_on p m.from))) _ had.1 in
    let off = and_parts (not (m.from == home_square c f)) (not (m.to == home_square c f)) still.1 in
    record {
      had = had.0;
      still = λ e. both_ways (holds c King (piece_on p m.from)) (not-true (holds c King (piece_on p m.from)) still.0)
          (is_holds c King (piece_on p m.from) e);
      off_from = λ e. eqb-false m.from (home_square c f) (not-true (m.from == home_square c f) off.0) (sym e);
      off_to = λ e. eqb-false m.to (home_square c f) (not-true (m.to == home_square c f) off.1) (sym e);
    }

-- a rook is not a pawn
rook_no_pawn : Rook ≢ Pawn
rook_no_pawn e = cc

-- a placement and rights that are those after the move
pub record IsLeftBy (p : Parts) (m : Triple) (cell : ℕ → Cell) (cells : List Cell) (r : CastlingRights) : Type 0 where
  pub squares : (u : ℕ) → u < 64 → cell_at cells u ≡ cell u
  pub width : (c : Colour) → length (rights_of r c) ≡ 8
  pub files : (c : Colour) (f : ℕ) → f < 8 → has_right r c f ≡ keeps_right p m c f

-- if a right is kept, its king was already on its square
king_was : (p : Parts) (m : Triple) (cell : ℕ → Cell) (c : Colour) (f s : ℕ) → IsChange p m cell → IsKept p m c f
    → s < 64 → cell s ≡ man c King
    → piece_on p s ≡ man c King
king_was p m cell c f s w k l is =
    elim (w.came s c King l is) [
      | inl old ↦ old
      | inr new ↦ absurd (k.still (let own = new.own in rw own (new.king refl)))
    ]

-- the conditions of a side's rights are kept
pub rights_kept : (p : Parts) (m : Triple) (cell : ℕ → Cell) (cells : List Cell) (rights : CastlingRights) (c : Colour)
    → IsChange p m cell
    → IsLeftBy p m cell cells rights → AreRights p.placement p.rights c → AreRights cells rights c
rights_kept p m cell cells rights c w left old =
    let keeps : (f : ℕ) → f < 8 → has_right rights c f ≡ true → IsKept p m c f =
    λ f l h. kept p m c f (sym (left.files c f l) ∙ h) in
    let king : (f s : ℕ) → IsKept p m c f → s < 64 → cell_at cells s ≡ man c King → piece_on p s ≡ man c King =
    λ f s k l is. king_was p m cell c f s w k l (sym (left.squares s l) ∙ is) in
    record {
      width = left.width c;
      rook = λ f l h.
          let k = keeps f l h in
          left.squares (home_square c f) (home_in c f l)
          ∙ w.stays (home_square c f) c Rook (home_in c f l) rook_no_pawn k.off_from k.off_to (old.rook f l k.had);
      king = λ f s l s_in h is.
          let k = keeps f l h in
          old.king f s l s_in k.had (king f s k s_in is);
      one_each_side = λ f g s l l2 s_in h h2 is side.
          let k = keeps f l h in
          let k2 = keeps g l2 h2 in
          old.one_each_side f g s l l2 s_in k.had k2.had (king f s k s_in is) side;
    }
