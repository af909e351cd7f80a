-- The written text has at most 93 bytes.
use Rattle.std.proofs.Common.{◌≡◌, ℕ, zero, suc, ◌+◌, ◌*◌, ◌≤◌, List, [], ◌∷◌, length, take, drop, Option, Some, None, refl, arith, decimal, length-append, length-drop}
use Rattle.std.proofs.lemmas.Fmt.{length-decimal-le}
use Rattle.std.proofs.lemmas.List.{length-take}
use Rattle.std.proofs.lemmas.List.FromFn.{length-map-range_with_len}
use Rattle.c960_board.specs.declared.piece.Colour.{Colour}
use Rattle.c960_board.specs.declared.piece.Colour.TheVariants.{White, Black}
use Rattle.c960_board.specs.declared.rights.CastlingRights.{CastlingRights}
use Rattle.c960_board.specs.declared.parts.Parts.{Parts}
use Rattle.c960_board.specs.declared.sets.Sets.{Sets}
use Rattle.c960_board.specs.Pieces.{Cell}
use Rattle.c960_board.specs.Sets.{cell_in, cells_of}
use Rattle.c960_board.specs.Position.{IsPlacement, AreRights, IsPosition}
use Rattle.c960_board.specs.Fen.Letters.{letter, turn_text}
use Rattle.c960_board.specs.Fen.Fields.{Six, joined}
use Rattle.c960_board.specs.Fen.Target.{target_text}
use Rattle.c960_board.specs.Fen.Canonical.{run_text, squares_text, ranks_text, side_text, or_dash, rights_text, fields_of, canonical}
use Rattle.c960_board.proofs.Written.Steps.{both_sides}
use Rattle.c960_board.proofs.Written.SideRights.{side_length}

-- a run's digit is no longer than the run
pub run_length : (n : ℕ) → length (run_text n) ≤ n
run_length zero = omega arith
run_length (suc n) = omega arith

-- a square takes at most one byte
squares_length : (cells : List Cell) (n : ℕ) → length (squares_text cells n) ≤ length cells + n
unfolding squares_text
squares_length [] n = omega (arith, run_length n)
squares_length (None ∷ cells) n = omega (arith, squares_length cells (n + 1))
squares_length (Some p ∷ cells) n =
    omega (arith, squares_length cells 0, run_length n, length-append (run_text n) (letter p ∷ squares_text cells 0))

-- eight bytes a rank and the slashes
ranks_length : (n : ℕ) (cells : List Cell) → length cells ≡ 8 * n + 8 → length (ranks_text n cells) ≤ 9 * n + 8
unfolding ranks_text
ranks_length zero cells full = omega (arith, squares_length cells 0)
ranks_length (suc n) cells full =
    let high = drop (8 * suc n) cells in
    let low = take (8 * suc n) cells in
    let a = length-drop (8 * suc n) cells in
    let b = length-take (8 * suc n) cells in
    let d = ranks_length n low (omega arith) in
    omega (arith, squares_length high 0, length-append (squares_text high 0) (47 ∷ ranks_text n low))

-- the longest placement, of 64 pieces
pub placement_short : (s : Sets) → length (ranks_text 7 (cells_of s)) ≤ 71
unfolding cells_of
placement_short s = ranks_length 7 (cells_of s) (length-map-range_with_len (cell_in s) 0 64)

-- a dash has one byte
dash_length : (text : List ℕ) (n : ℕ) → length text ≤ n → 1 ≤ n → length (or_dash text) ≤ n
dash_length [] n l m = m
dash_length (b ∷ bs) n l m = l

-- at most two rights a side
rights_length : (cells : List Cell) (r : CastlingRights) → IsPlacement cells → ((c : Colour) → AreRights cells r c)
    → length (rights_text r) ≤ 4
unfolding rights_text
rights_length cells r p rights =
    let white = side_length cells r White p (rights White) in
    let black = side_length cells r Black p (rights Black) in
    dash_length (both_sides r) 4 (omega (arith, length-append (side_text r White 8) (side_text r Black 8))) (omega arith)

-- one byte for the side to move
turn_length : (c : Colour) → length (turn_text c) ≡ 1
turn_length White = refl
turn_length Black = refl

-- at most two bytes for the target
target_length : (t : Option ℕ) → length (target_text t) ≤ 2
target_length None = omega arith
target_length (Some s) = omega arith

-- the fields and the five spaces
joined_length : (f : Six)
    → length (joined f) ≡ length f.placement + length f.turn + length f.rights + length f.target + length f.half_moves + length f.number + 5
joined_length f = simp length-append (omega arith)

-- the fields and the spaces of the written text
pub canonical_length : (p : Parts)
    → length (canonical p) ≡ length (ranks_text 7 p.placement) + length (turn_text p.turn) + length (rights_text p.rights)
    + length (target_text p.target) + length (decimal p.half_moves) + length (decimal p.number) + 5
unfolding fields_of canonical
canonical_length p = joined_length (fields_of p)

-- 71 bytes of the placement, 1, 4, 2, 5 and 5, and five spaces
pub canonical_short : (p : Parts) → IsPosition p → length (canonical p) ≤ 93
canonical_short p valid =
    let full = valid.placement.full in
    let half_moves = valid.counters.half_moves in
    let number = valid.counters.bounded in
    omega (
      arith,
      canonical_length p,
      ranks_length 7 p.placement full,
      turn_length p.turn,
      rights_length p.placement p.rights valid.placement valid.rights,
      target_length p.target,
      length-decimal-le 5 p.half_moves (omega arith) (omega arith) (omega arith),
      length-decimal-le 5 p.number (omega arith) (omega arith) (omega arith),
    )

-- the fields and the spaces fit
abbrev pub FieldsFit : Parts → Type 0
FieldsFit p =
    length (ranks_text 7 p.placement) + length (turn_text p.turn) + length (rights_text p.rights)
    + length (target_text p.target) + length (decimal p.half_moves) + length (decimal p.number) + 5 ≤ 93

-- the fields of a position fit
pub fields_fit : (p : Parts) → IsPosition p → FieldsFit p
fields_fit p valid = omega (arith, canonical_length p, canonical_short p valid)
