-- Steps of the written text.
use Rattle.std.proofs.Common.{◌≡◌, ◌≢◌, ℕ, suc, ◌+◌, ◌*◌, ◌<◌, ◌≤◌, true, false, cond, List, [], ◌∷◌, ◌++◌, length, get_or, take, drop, Some, None, refl, sym, ap, arith, decimal, add-one, append_assoc, append-nil, drop-cons, length-append}
use Rattle.std.proofs.lemmas.List.{nil_from_length, at_drop_all}
use Rattle.c960_board.specs.declared.piece.Colour.{Colour}
use Rattle.c960_board.specs.declared.piece.Colour.TheVariants.{White, Black}
use Rattle.c960_board.specs.declared.piece.Piece.{Piece}
use Rattle.c960_board.specs.declared.rights.CastlingRights.{CastlingRights}
use Rattle.c960_board.specs.declared.parts.Parts.{Parts}
use Rattle.c960_board.specs.Pieces.{Cell}
use Rattle.c960_board.specs.Cells.{has_right}
use Rattle.c960_board.specs.Fen.Letters.{letter, turn_text, right_letter, dash}
use Rattle.c960_board.specs.Fen.Target.{target_text}
use Rattle.c960_board.specs.Fen.Canonical.{run_text, squares_text, ranks_text, side_text, or_dash, rights_text, fields_of, canonical}

-- a piece after a run of empty squares
pub squares_text_piece : (cells : List Cell) (i n : ℕ) (p : Piece) → i < length cells → get_or cells i None ≡ Some p
    → squares_text (drop i cells) n ≡ run_text n ++ letter p ∷ squares_text (drop (i + 1) cells) 0
unfolding squares_text
squares_text_piece cells i n p l e = rw (add-one, drop-cons cells i None, e) refl

-- a square without a piece makes the run longer
pub squares_text_empty : (cells : List Cell) (i n : ℕ) → i < length cells → get_or cells i None ≡ None
    → squares_text (drop i cells) n ≡ squares_text (drop (i + 1) cells) (n + 1)
unfolding squares_text
squares_text_empty cells i n l e = let next : i + 1 ≡ suc i = omega arith in rw (next, drop-cons cells i None, e) refl

-- after the last square only the run is left
pub squares_text_end : (cells : List Cell) (i n : ℕ) → length cells ≤ i → squares_text (drop i cells) n ≡ run_text n
unfolding squares_text
squares_text_end cells i n l = at_drop_all (λ (left : List Cell). squares_text left n) cells i l

-- the first part of what is left has room if all of it had
pub first_fits : (old whole text first rest : List ℕ) → length old + length whole ≤ 93
    → old ++ whole ≡ text ++ (first ++ rest) → length text + length first ≤ 93
first_fits old whole text first rest l e =
    let both = ap length e in
    omega (arith, length-append old whole, length-append text (first ++ rest), length-append first rest)

-- a rank above the first, and its slash
pub ranks_text_more : (cells lower highest : List Cell) (n k : ℕ) → n ≡ k + 1 → lower ≡ take (8 * n) cells
    → highest ≡ drop (8 * n) cells
    → ranks_text n cells ≡ squares_text highest 0 ++ 47 ∷ ranks_text k lower
unfolding ranks_text
ranks_text_more cells lower highest n k e p q = let f : n ≡ suc k = omega arith in rw (p, q, f) refl

-- the first rank
pub ranks_text_last : (cells : List Cell) (n : ℕ) → n ≡ 0 → ranks_text n cells ≡ squares_text cells 0
unfolding ranks_text
ranks_text_last cells n e = rw e refl

-- the letter of a right that is held
pub side_text_with : (r : CastlingRights) (c : Colour) (n k : ℕ) → n ≡ k + 1 → has_right r c k ≡ true
    → side_text r c n ≡ right_letter c k ∷ side_text r c k
unfolding side_text
side_text_with r c n k e h =
    let f : n ≡ suc k = omega arith in rw f (ap (λ b. cond b (right_letter c k ∷ side_text r c k) (side_text r c k)) h)

-- nothing for a right that is not held
pub side_text_without : (r : CastlingRights) (c : Colour) (n k : ℕ) → n ≡ k + 1 → has_right r c k ≡ false
    → side_text r c n ≡ side_text r c k
unfolding side_text
side_text_without r c n k e h =
    let f : n ≡ suc k = omega arith in rw f (ap (λ b. cond b (right_letter c k ∷ side_text r c k) (side_text r c k)) h)

-- no file is left
pub side_text_none : (r : CastlingRights) (c : Colour) (n : ℕ) → n ≡ 0 → side_text r c n ≡ []
unfolding side_text
side_text_none r c n e = rw e refl

-- what is written goes from what was left to the text
pub written : (all text more left first rest : List ℕ) → more ≡ text ++ first → left ≡ first ++ rest
    → all ≡ text ++ left → all ≡ more ++ rest
written all text more left first rest e f h = rw (e, append_assoc) (rw f at h)

-- nothing is left to write
pub all_written : (all text left : List ℕ) → left ≡ [] → all ≡ text ++ left → text ≡ all
all_written all text left e h = let f : all ≡ text ++ [] = rw e at h in sym (rw append-nil at f)

-- the letters of both sides' rights
abbrev pub both_sides : CastlingRights → List ℕ
both_sides r = side_text r White 8 ++ side_text r Black 8

-- nothing becomes a dash
or_dash_none : (text : List ℕ) → length text ≡ 0 → or_dash text ≡ dash
or_dash_none [] e = refl
or_dash_none (b ∷ bs) e = absurd (omega arith)

-- something stays
or_dash_some : (text : List ℕ) → 0 < length text → or_dash text ≡ text
or_dash_some [] l = absurd (omega arith)
or_dash_some (b ∷ bs) l = refl

-- the text after both sides' letters
sides_written : (r : CastlingRights) (old white both : List ℕ) → white ≡ old ++ side_text r White 8
    → both ≡ white ++ side_text r Black 8 → both ≡ old ++ both_sides r
sides_written r old white both e f = rw (f, e, append_assoc) refl

-- no right is held: the dash comes after the text that was there
pub dash_written : (r : CastlingRights) (old white both more : List ℕ) → white ≡ old ++ side_text r White 8
    → both ≡ white ++ side_text r Black 8
    → length both ≡ length old → more ≡ both ++ dash → more ≡ old ++ rights_text r
unfolding rights_text
dash_written r old white both more e f same d =
    let all = sides_written r old white both e f in
    let lengths = ap length all in
    let none : length (both_sides r) ≡ 0 = omega (arith, length-append old (both_sides r)) in
    rw (or_dash_none (both_sides r) none, d, all, nil_from_length (both_sides r) none, append-nil) refl

-- some right is held: the letters are all that is written
pub rights_written : (r : CastlingRights) (old white both : List ℕ) → white ≡ old ++ side_text r White 8
    → both ≡ white ++ side_text r Black 8
    → length both ≢ length old → both ≡ old ++ rights_text r
unfolding rights_text
rights_written r old white both e f other =
    let all = sides_written r old white both e f in
    let lengths = ap length all in
    let some : 0 < length (both_sides r) = omega (arith, length-append old (both_sides r)) in
    rw (or_dash_some (both_sides r) some) all

-- a dash is no shorter than nothing
or_dash_length : (text : List ℕ) → length text ≤ length (or_dash text)
or_dash_length [] = omega arith
or_dash_length (b ∷ bs) = omega arith

-- the letters of both sides fit if the rights do
pub sides_length : (r : CastlingRights)
    → length (side_text r White 8) + length (side_text r Black 8) ≤ length (rights_text r)
unfolding rights_text
sides_length r = omega (arith, length-append (side_text r White 8) (side_text r Black 8), or_dash_length (both_sides r))

-- either way something is written
or_dash_length_some : (text : List ℕ) → 1 ≤ length (or_dash text)
or_dash_length_some [] = omega arith
or_dash_length_some (b ∷ bs) = omega arith

-- the rights' text is never empty
pub rights_length_some : (r : CastlingRights) → 1 ≤ length (rights_text r)
unfolding rights_text
rights_length_some r = or_dash_length_some (both_sides r)

-- the written text, field by field after what is there
pub canonical_written : (p : Parts)
    → (((((((((([] ++ ranks_text 7 p.placement) ++ 32 ∷ []) ++ turn_text p.turn) ++ 32 ∷ []) ++ rights_text p.rights) ++ 32 ∷ []) ++ target_text p.target) ++ 32 ∷ [])
    ++ decimal p.half_moves) ++ 32 ∷ []) ++ decimal p.number ≡ canonical p
unfolding fields_of canonical
canonical_written p = simp append_assoc
