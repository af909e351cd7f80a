-- The eight sets of the squares below a number, which one pass over a placement makes.
use Rattle.std.proofs.Common.{◌≡◌, ℕ, ◌+◌, ◌<◌, List, Some, None, length, refl, ap}
use Rattle.c960_board.specs.declared.piece.Colour.{Colour}
use Rattle.c960_board.specs.declared.piece.Colour.TheVariants.{White, Black}
use Rattle.c960_board.specs.declared.piece.Kind.{Kind}
use Rattle.c960_board.specs.declared.piece.Kind.TheVariants.{Pawn, Knight, Bishop, Rook, Queen, King}
use Rattle.c960_board.specs.declared.piece.Piece.{Piece}
use Rattle.c960_board.specs.declared.sets.Sets.{Sets}
use Rattle.c960_board.specs.Pieces.{Cell, same_colour, same_kind, is_of}
use Rattle.c960_board.specs.Cells.{cell_at}
use Rattle.c960_board.specs.Sets.{is_kind, sets_of, colour_set, kind_set}
use Rattle.c960_board.specs.Inner.SetsWith.{empty_sets, set_with, sets_with}
use Rattle.c960_board.proofs.lemmas.SetFacts.{IsSetTo, set_none, set_more, set_more_out, set_all}

-- each set is that of the squares below n
pub record AreSetsTo (cells : List Cell) (n : ℕ) (s : Sets) : Type 0 where
  pub colours : (c : Colour) → IsSetTo (is_of c) cells n (colour_set c s)
  pub kinds : (k : Kind) → IsSetTo (is_kind k) cells n (kind_set k s)

-- no square
colour_empty : (c : Colour) → colour_set c empty_sets ≡ 0
colour_empty White = refl
colour_empty Black = refl

kind_empty : (k : Kind) → kind_set k empty_sets ≡ 0
kind_empty Pawn = refl
kind_empty Knight = refl
kind_empty Bishop = refl
kind_empty Rook = refl
kind_empty Queen = refl
kind_empty King = refl

pub sets_none : (cells : List Cell) → AreSetsTo cells 0 empty_sets
sets_none cells =
    record {
      colours = λ c. rw (colour_empty c) (set_none (is_of c) cells);
      kinds = λ k. rw (kind_empty k) (set_none (is_kind k) cells);
    }

-- one square more, which holds a piece
colour_with : (c : Colour) (p : Piece) (n : ℕ) (s : Sets)
    → colour_set c (sets_with p n s) ≡ set_with (same_colour p.colour c) n (colour_set c s)
colour_with White p n s = refl
colour_with Black p n s = refl

kind_with : (k : Kind) (p : Piece) (n : ℕ) (s : Sets)
    → kind_set k (sets_with p n s) ≡ set_with (same_kind p.kind k) n (kind_set k s)
kind_with Pawn p n s = refl
kind_with Knight p n s = refl
kind_with Bishop p n s = refl
kind_with Rook p n s = refl
kind_with Queen p n s = refl
kind_with King p n s = refl

pub sets_more : (cells : List Cell) (n : ℕ) (s : Sets) (p : Piece) → n < 64 → AreSetsTo cells n s → cell_at cells n ≡ Some p
    → AreSetsTo cells (n + 1) (sets_with p n s)
sets_more cells n s p within h e =
    record {
      colours = λ c.
          rw (colour_with c p n s)
          (set_more (is_of c) cells n (colour_set c s) (same_colour p.colour c) within (h.colours c) (ap (is_of c) e));
      kinds = λ k.
          rw (kind_with k p n s)
          (set_more (is_kind k) cells n (kind_set k s) (same_kind p.kind k) within (h.kinds k) (ap (is_kind k) e));
    }

-- one square more, which is vacant
pub sets_same : (cells : List Cell) (n : ℕ) (s : Sets) → AreSetsTo cells n s → cell_at cells n ≡ None → AreSetsTo cells (n + 1) s
sets_same cells n s h e =
    record {
      colours = λ c. set_more_out (is_of c) cells n (colour_set c s) (h.colours c) (ap (is_of c) e);
      kinds = λ k. set_more_out (is_kind k) cells n (kind_set k s) (h.kinds k) (ap (is_kind k) e);
    }

-- all squares
pub sets_all : (cells : List Cell) (n : ℕ) (s : Sets) → n ≡ 64 → length cells ≡ 64 → AreSetsTo cells n s → s ≡ sets_of cells
sets_all cells n s e full h =
    let w = set_all (is_of White) cells n s.white e full (h.colours White) in
    let b = set_all (is_of Black) cells n s.black e full (h.colours Black) in
    let p = set_all (is_kind Pawn) cells n s.pawns e full (h.kinds Pawn) in
    let i = set_all (is_kind Knight) cells n s.knights e full (h.kinds Knight) in
    let l = set_all (is_kind Bishop) cells n s.bishops e full (h.kinds Bishop) in
    let r = set_all (is_kind Rook) cells n s.rooks e full (h.kinds Rook) in
    let q = set_all (is_kind Queen) cells n s.queens e full (h.kinds Queen) in
    let k = set_all (is_kind King) cells n s.kings e full (h.kinds King) in
    rw (← w, ← b, ← p, ← i, ← l, ← r, ← q, ← k) refl
