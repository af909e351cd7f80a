-- The sets of cells describe those cells.
use Rattle.std.proofs.Common.{◌≡◌, ℕ, ◌+◌, ◌<◌, Bool, List, Some, None, length, get_or, refl, ap, sym, ◌∙◌, inl, inr, zero-add, arith}
use Rattle.std.specs.Prelude.{◌==◌, slice_set}
use Rattle.std.proofs.lemmas.Bool.{cases_eq}
use Rattle.std.proofs.lemmas.List.{get_or-set_same, get_or-set_other}
use Rattle.std.proofs.lemmas.List.FromFn.{fill_by_all, get_or-map-range_with_len}
use Rattle.c960_board.specs.declared.piece.Colour.{Colour}
use Rattle.c960_board.specs.declared.piece.Colour.TheVariants.{White, Black}
use Rattle.c960_board.specs.declared.piece.Kind.{Kind}
use Rattle.c960_board.specs.declared.piece.Kind.TheVariants.{Pawn, Knight, Bishop, Rook, Queen, King}
use Rattle.c960_board.specs.declared.parts.Parts.{Parts}
use Rattle.c960_board.specs.declared.sets.Sets.{Sets}
use Rattle.c960_board.specs.Pieces.{Cell, man, is_of}
use Rattle.c960_board.specs.Cells.{cell_at}
use Rattle.c960_board.specs.Sets.{is_kind, set_of, sets_of, is_in, kind_by, cell_by, cell_in, cells_of, parts_of}
use Rattle.c960_board.proofs.lemmas.SetFacts.{set_bit}
use Rattle.c960_board.proofs.lemmas.Tests.{one_in}

in_set : (test : Cell → Bool) (cells : List Cell) (i : ℕ) → i < length cells → is_in (set_of test cells) i ≡ test (cell_at cells i)
in_set test cells i h = ap (λ (x : ℕ). x == 1) (set_bit test cells i h) ∙ one_in (test (cell_at cells i))

of_man : (c : Colour) (k : Kind) → cell_by (is_of White (man c k)) (is_of Black (man c k))
    (kind_by (is_kind Pawn (man c k)) (is_kind Knight (man c k)) (is_kind Bishop (man c k)) (is_kind Rook (man c k)) (is_kind Queen (man c k)))
    ≡ man c k
of_man White Pawn = refl
of_man White Knight = refl
of_man White Bishop = refl
of_man White Rook = refl
of_man White Queen = refl
of_man White King = refl
of_man Black Pawn = refl
of_man Black Knight = refl
of_man Black Bishop = refl
of_man Black Rook = refl
of_man Black Queen = refl
of_man Black King = refl

of_cell : (o : Cell) → cell_by (is_of White o) (is_of Black o)
    (kind_by (is_kind Pawn o) (is_kind Knight o) (is_kind Bishop o) (is_kind Rook o) (is_kind Queen o)) ≡ o
of_cell None = refl
of_cell (Some q) = of_man q.colour q.kind

cell_back : (cells : List Cell) (u : ℕ) → u < length cells → cell_in (sets_of cells) u ≡ cell_at cells u
cell_back cells u h =
    let w = in_set (is_of White) cells u h in
    let b = in_set (is_of Black) cells u h in
    let p = in_set (is_kind Pawn) cells u h in
    let n = in_set (is_kind Knight) cells u h in
    let i = in_set (is_kind Bishop) cells u h in
    let r = in_set (is_kind Rook) cells u h in
    let q = in_set (is_kind Queen) cells u h in
    rw (w, b, p, n, i, r, q) (of_cell (cell_at cells u))

pub cells_back : (cells : List Cell) → length cells ≡ 64 → cells_of (sets_of cells) ≡ cells
unfolding cells_of
cells_back cells full =
    sym (fill_by_all (cell_in (sets_of cells)) cells 64 None full (λ u l. sym (cell_back cells u (omega arith))))

pub cell_there : (s : Sets) (u : ℕ) → u < 64 → cell_at (cells_of s) u ≡ cell_in s u
unfolding cells_of
cell_there s u l = get_or-map-range_with_len (cell_in s) 0 64 u u None l (zero-add u)

-- a row filled square by square
pub cells_filled : (s : Sets) (cells : List Cell) → length cells ≡ 64
    → ((u : ℕ) → u < 64 → get_or cells u None ≡ cell_in s u) → cells ≡ cells_of s
unfolding cells_of
cells_filled s cells full h = fill_by_all (cell_in s) cells 64 None full h

-- the parts of a position from its sets
pub parts_back : (p : Parts) (s : Sets) → length p.placement ≡ 64 → s ≡ sets_of p.placement
    → parts_of s p.turn p.rights p.target p.half_moves p.number ≡ p
parts_back p s full e =
    ap (λ (cells : List Cell). let q : Parts = record { placement = cells; turn = p.turn; rights = p.rights; target = p.target; half_moves = p.half_moves; number = p.number } in q) (ap cells_of e ∙ cells_back p.placement full)

-- one square more
pub filled_more : (f : ℕ → Cell) (cells : List Cell) (n : ℕ) (x : Cell) → n < length cells → x ≡ f n
    → ((u : ℕ) → u < n → get_or cells u None ≡ f u) → (u : ℕ) → u < n + 1 → get_or (slice_set cells n x) u None ≡ f u
filled_more f cells n x inside is h u l =
    elim (cases_eq u n) [
      | inl e ↦ rw e (get_or-set_same cells n x None inside ∙ is)
      | inr ne ↦ get_or-set_other cells n u x None ne ∙ h u (omega arith)
    ]
