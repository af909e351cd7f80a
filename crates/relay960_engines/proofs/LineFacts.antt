-- Lemmas on the lines of bytes, and on lines of which the first KEPT bytes are kept.
use Rattle.std.proofs.Common.{◌≡◌, ◌≢◌, ℕ, ◌-◌, ◌<◌, ◌≤◌, ◌==◌, nat_lt, slice_index, List, [], ◌∷◌, ◌++◌, length, take, map, zero, suc}
use Rattle.std.proofs.Common.{Bool, true, false, cond, refl, sym, ap, ◌∙◌, arith, append_assoc, append-nil}
use Rattle.std.proofs.lemmas.Bool.{ltb-true, ltb-false, ne_eqb}
use Rattle.std.proofs.lemmas.List.{take-append-le, length-take, length-append, get_or-take, take_all}
use Rattle.relay960_engines.specs.declared.kept_line.TheConstants.{KEPT}
use Rattle.relay960_engines.specs.Lines.{whole_lines, last_piece, last_line, lines_of}
use Rattle.relay960_engines.specs.Inner.Taking.{IsPlain, kept_behind, kept_with, kept_lines, kept_piece}

-- the lines of some bytes followed by more
pub kept_lines-append : (line xs ys : List ℕ)
    → kept_lines line (xs ++ ys) ≡ kept_lines line xs ++ kept_lines (kept_piece line xs) ys
unfolding kept_lines kept_piece
kept_lines-append line [] ys = refl
kept_lines-append line (x ∷ xs) ys =
    elim (x == 10) as (λ is_end. cond is_end (line ∷ kept_lines [] (xs ++ ys)) (kept_lines (kept_with line x) (xs ++ ys))
    ≡ cond is_end (line ∷ kept_lines [] xs) (kept_lines (kept_with line x) xs)
    ++ kept_lines (cond is_end (kept_piece [] xs) (kept_piece (kept_with line x) xs)) ys) [
      | true ↦ ap (λ ls. line ∷ ls) (kept_lines-append [] xs ys)
      | false ↦ kept_lines-append (kept_with line x) xs ys
    ]

pub kept_piece-append : (line xs ys : List ℕ) → kept_piece line (xs ++ ys) ≡ kept_piece (kept_piece line xs) ys
unfolding kept_piece
kept_piece-append line [] ys = refl
kept_piece-append line (x ∷ xs) ys =
    elim (x == 10) as (λ is_end. cond is_end (kept_piece [] (xs ++ ys)) (kept_piece (kept_with line x) (xs ++ ys))
    ≡ kept_piece (cond is_end (kept_piece [] xs) (kept_piece (kept_with line x) xs)) ys) [
      | true ↦ kept_piece-append [] xs ys
      | false ↦ kept_piece-append (kept_with line x) xs ys
    ]

-- one byte
pub kept_lines-end : (line : List ℕ) (b : ℕ) → b ≡ 10 → kept_lines line (b ∷ []) ≡ line ∷ []
unfolding kept_lines
kept_lines-end line b is_end = rw is_end refl

pub kept_piece-end : (line : List ℕ) (b : ℕ) → b ≡ 10 → kept_piece line (b ∷ []) ≡ []
unfolding kept_piece
kept_piece-end line b is_end = rw is_end refl

-- ---- Bytes without a line feed.

tail_plain : (x : ℕ) (xs : List ℕ) → IsPlain (x ∷ xs) → IsPlain xs
tail_plain x xs plain = λ k below. plain (suc k) (omega arith)

-- they end no line
pub kept_lines-plain : (line xs : List ℕ) → IsPlain xs → kept_lines line xs ≡ []
unfolding kept_lines
kept_lines-plain line [] plain = refl
kept_lines-plain line (x ∷ xs) plain =
    ap (λ is_end. cond is_end (line ∷ kept_lines [] xs) (kept_lines (kept_with line x) xs)) (ne_eqb x 10 (plain 0 (omega arith)))
    ∙ kept_lines-plain (kept_with line x) xs (tail_plain x xs plain)

behind_at : (has_room : Bool) (line : List ℕ) (x : ℕ) (xs : List ℕ) → nat_lt (length line) KEPT ≡ has_room
    → kept_behind (cond has_room (line ++ x ∷ []) line) xs ≡ kept_behind line (x ∷ xs)
behind_at true line x xs e =
    let short : length line < KEPT = ltb-true _ _ e in
    let one : KEPT - length line ≡ suc (KEPT - length (line ++ x ∷ [])) = omega (arith, short, length-append line (x ∷ [])) in
    append_assoc line (x ∷ []) (take (KEPT - length (line ++ x ∷ [])) xs) ∙ sym (ap (λ n. line ++ take n (x ∷ xs)) one)
behind_at false line x xs e =
    let long : KEPT ≤ length line = ltb-false _ _ e in
    let none : KEPT - length line ≡ 0 = omega (arith, long) in
    ap (λ n. line ++ take n xs) none ∙ sym (ap (λ n. line ++ take n (x ∷ xs)) none)

-- they come after the line, as far as they are kept
pub kept_piece-plain : (line xs : List ℕ) → IsPlain xs → kept_piece line xs ≡ kept_behind line xs
unfolding kept_piece
kept_piece-plain line [] plain = sym (ap (λ l. line ++ l) (take_all (KEPT - length line) [] (omega arith)) ∙ append-nil line)
kept_piece-plain line (x ∷ xs) plain =
    ap (λ is_end. cond is_end (kept_piece [] xs) (kept_piece (kept_with line x) xs)) (ne_eqb x 10 (plain 0 (omega arith)))
    ∙ kept_piece-plain (kept_with line x) xs (tail_plain x xs plain) ∙ behind_at _ line x xs refl

-- a line feed after them ends a line
pub kept_lines-ended : (line xs : List ℕ) → IsPlain xs → kept_lines line (xs ++ 10 ∷ []) ≡ kept_behind line xs ∷ []
kept_lines-ended line xs plain =
    kept_lines-append line xs (10 ∷ [])
    ∙ ap (λ ls. ls ++ kept_lines (kept_piece line xs) (10 ∷ [])) (kept_lines-plain line xs plain)
    ∙ kept_lines-end (kept_piece line xs) 10 refl ∙ ap (λ l. l ∷ []) (kept_piece-plain line xs plain)

pub kept_piece-ended : (line xs : List ℕ) → kept_piece line (xs ++ 10 ∷ []) ≡ []
kept_piece-ended line xs = kept_piece-append line xs (10 ∷ []) ∙ kept_piece-end (kept_piece line xs) 10 refl

-- bytes before the first line feed
pub plain_front : (xs : List ℕ) (end n : ℕ) → ((k : ℕ) → k < end → slice_index xs k ≢ 10) → n ≤ end → IsPlain (take n xs)
plain_front xs end n plain within = λ k below.
    let before : k < n = omega (arith, below, length-take n xs) in
    λ is. plain k (omega (arith, before, within)) (sym (get_or-take n xs k 0 before) ∙ is)

-- ---- What is kept is the first KEPT bytes.

-- a list that is short enough is taken whole
take_short : (n : ℕ) (xs : List ℕ) → length xs ≤ n → take n xs ≡ xs
take_short zero [] short = refl
take_short (suc n) [] short = refl
take_short zero (x ∷ xs) short = absurd (omega arith)
take_short (suc n) (x ∷ xs) short = ap (λ l. x ∷ l) (take_short n xs (omega arith))

kept_at : (has_room : Bool) (begun : List ℕ) (b : ℕ) → nat_lt (length (take KEPT begun)) KEPT ≡ has_room
    → cond has_room (take KEPT begun ++ b ∷ []) (take KEPT begun) ≡ take KEPT (begun ++ b ∷ [])
kept_at true begun b e =
    let kept : length (take KEPT begun) < KEPT = ltb-true _ _ e in
    let short : length begun < KEPT = omega (arith, length-take KEPT begun) in
    ap (λ l. l ++ b ∷ []) (take_short KEPT begun (omega arith))
    ∙ sym (take_short KEPT (begun ++ b ∷ []) (omega (arith, length-append begun (b ∷ []))))
kept_at false begun b e =
    let kept : KEPT ≤ length (take KEPT begun) = ltb-false _ _ e in
    let long : KEPT ≤ length begun = omega (arith, length-take KEPT begun) in
    sym (take-append-le KEPT begun (b ∷ []) long)

-- one more byte is kept if it is one of the first
pub kept_with-take : (begun : List ℕ) (b : ℕ) → kept_with (take KEPT begun) b ≡ take KEPT (begun ++ b ∷ [])
kept_with-take begun b = kept_at _ begun b refl

-- the kept lines are the first bytes of the lines
pub kept_lines-take : (begun bytes : List ℕ)
    → kept_lines (take KEPT begun) bytes ≡ map (take KEPT) (whole_lines begun bytes)
unfolding kept_lines whole_lines
kept_lines-take begun [] = refl
kept_lines-take begun (b ∷ bs) =
    elim (b == 10) as (λ is_end. cond is_end (take KEPT begun ∷ kept_lines [] bs)
    (kept_lines (kept_with (take KEPT begun) b) bs)
    ≡ map (take KEPT) (cond is_end (begun ∷ whole_lines [] bs) (whole_lines (begun ++ b ∷ []) bs))) [
      | true ↦ ap (λ ls. take KEPT begun ∷ ls) (kept_lines-take [] bs)
      | false ↦ ap (λ l. kept_lines l bs) (kept_with-take begun b) ∙ kept_lines-take (begun ++ b ∷ []) bs
    ]

pub kept_piece-take : (begun bytes : List ℕ)
    → kept_piece (take KEPT begun) bytes ≡ take KEPT (last_piece begun bytes)
unfolding kept_piece last_piece
kept_piece-take begun [] = refl
kept_piece-take begun (b ∷ bs) =
    elim (b == 10) as (λ is_end. cond is_end (kept_piece [] bs) (kept_piece (kept_with (take KEPT begun) b) bs)
    ≡ take KEPT (cond is_end (last_piece [] bs) (last_piece (begun ++ b ∷ []) bs))) [
      | true ↦ kept_piece-take [] bs
      | false ↦ ap (λ l. kept_piece l bs) (kept_with-take begun b) ∙ kept_piece-take (begun ++ b ∷ []) bs
    ]

-- a last piece is empty if nothing of it is kept
pub last_line-take : (piece : List ℕ) → last_line (take KEPT piece) ≡ map (take KEPT) (last_line piece)
last_line-take [] = refl
last_line-take (b ∷ bs) = refl

-- an empty piece is not a line
pub last_line-none : (line : List ℕ) → length line ≡ 0 → last_line line ≡ []
last_line-none [] none = refl
last_line-none (b ∷ bs) none = absurd (omega arith)

-- if nothing of it is kept there is none
pub piece_none : (piece : List ℕ) → take KEPT piece ≡ [] → piece ≡ []
piece_none [] none = refl
piece_none (b ∷ bs) none = absurd (omega (arith, ap length none, length-take KEPT (b ∷ bs)))

-- the lines of bytes that end with a line feed
pub lines_ended : (bytes : List ℕ) → last_piece [] bytes ≡ [] → whole_lines [] bytes ≡ lines_of bytes
unfolding lines_of
lines_ended bytes none = sym (ap (λ l. whole_lines [] bytes ++ last_line l) none ∙ append-nil (whole_lines [] bytes))

-- any other is one
pub last_line-whole : (line : List ℕ) → (length line == 0) ≡ false → last_line line ≡ line ∷ []
last_line-whole [] more = cc
last_line-whole (b ∷ bs) more = refl

-- ---- The lines of bytes followed by more.

whole_lines-append : (begun xs ys : List ℕ)
    → whole_lines begun (xs ++ ys) ≡ whole_lines begun xs ++ whole_lines (last_piece begun xs) ys
unfolding whole_lines last_piece
whole_lines-append begun [] ys = refl
whole_lines-append begun (x ∷ xs) ys =
    elim (x == 10) as (λ is_end. cond is_end (begun ∷ whole_lines [] (xs ++ ys)) (whole_lines (begun ++ x ∷ []) (xs ++ ys))
    ≡ cond is_end (begun ∷ whole_lines [] xs) (whole_lines (begun ++ x ∷ []) xs)
    ++ whole_lines (cond is_end (last_piece [] xs) (last_piece (begun ++ x ∷ []) xs)) ys) [
      | true ↦ ap (λ ls. begun ∷ ls) (whole_lines-append [] xs ys)
      | false ↦ whole_lines-append (begun ++ x ∷ []) xs ys
    ]

-- the lines that end within the first bytes are the first of all lines
pub lines_before : (xs ys : List ℕ) → (more : List (List ℕ)) × (lines_of (xs ++ ys) ≡ whole_lines [] xs ++ more)
unfolding lines_of
lines_before xs ys =
    let behind : List (List ℕ) = whole_lines (last_piece [] xs) ys in
    let last : List (List ℕ) = last_line (last_piece [] (xs ++ ys)) in (
      behind ++ last,
      ap (λ ls. ls ++ last) (whole_lines-append [] xs ys) ∙ append_assoc (whole_lines [] xs) behind last,
    )
