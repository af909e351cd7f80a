-- How a search for a line that begins a write goes on.
use Rattle.std.proofs.Common.{refl, ◌≡◌, ℕ, suc, ◌+◌, ◌-◌, ◌≤◌, Bool, true, false, cond, List, [], ◌∷◌, ◌++◌, length, take, ◌∙◌, sym, ap, arith, length-append}
use Rattle.std.specs.Prelude.{◌==◌, ◌&&◌, slice_index, Option, Some, None, IsSome, is_some}
use Rattle.std.proofs.lemmas.List.{append-nil, take_at}
use Rattle.chained_lines.specs.Later.{begins_marked, later_write, searching}
use Rattle.chained_lines.specs.Lines.{has_no_feed}
use Rattle.chained_lines.specs.declared.later.LaterWrite.{LaterWrite}

-- what is found once a line feed has come
abbrev pub behind_feed : (line byte : ℕ) → List ℕ → Option LaterWrite
behind_feed line byte bytes =
    cond (begins_marked bytes) (Some (record { line = suc line; byte = suc byte })) (searching (suc line) (suc byte) bytes)

-- bytes without a line feed are passed over
pub search_over : (line byte : ℕ) (text bytes : List ℕ) → has_no_feed text ≡ true
    → searching line byte (text ++ bytes) ≡ searching line (byte + length text) bytes
unfolding searching
search_over line byte [] bytes ok = ap (λ (n : ℕ). searching line n bytes) (omega arith)
search_over line byte (b ∷ text) bytes ok =
    let is_not : (b == 10) ≡ false = grind (arith, ok) in
    let rest : has_no_feed text ≡ true = grind (arith, ok) in
    ap (λ (c : Bool). cond c (behind_feed line byte (text ++ bytes)) (searching line (suc byte) (text ++ bytes))) is_not
    ∙ search_over line (suc byte) text bytes rest ∙ ap (λ (n : ℕ). searching line n bytes) (omega arith)

-- without one, nothing is found
pub search_none : (line byte : ℕ) (text : List ℕ) → has_no_feed text ≡ true → searching line byte text ≡ None
unfolding searching
search_none line byte text ok = ap (λ (l : List ℕ). searching line byte l) (sym (append-nil text)) ∙ search_over line byte text [] ok

pub search_to_feed : (line byte : ℕ) (text bytes : List ℕ) → has_no_feed text ≡ true
    → searching line byte (text ++ 10 ∷ bytes) ≡ behind_feed line (byte + length text) bytes
unfolding searching
search_to_feed line byte text bytes ok = search_over line byte text (10 ∷ bytes) ok

-- what is found of bytes once the search has come to the next line feed
pub to_feed : (bytes rest text behind : List ℕ) (line : ℕ) → later_write bytes ≡ searching line (length bytes - length rest) rest
    → rest ≡ text ++ 10 ∷ behind → has_no_feed text ≡ true → length rest ≤ length bytes
    → later_write bytes ≡ cond (begins_marked behind) (Some (record { line = line + 1; byte = length bytes - length behind }))
    (searching (line + 1) (length bytes - length behind) behind)
to_feed bytes rest text behind line is parts ok within =
    let size : length rest ≡ length text + suc (length behind) = ap length parts ∙ length-append text (10 ∷ behind) in
    let next : suc line ≡ line + 1 = omega arith in
    let place : suc (length bytes - length rest + length text) ≡ length bytes - length behind = omega (arith, size, within) in
    is ∙ ap (λ (t : List ℕ). searching line (length bytes - length rest) t) parts
    ∙ search_to_feed line (length bytes - length rest) text behind ok
    ∙ ap (λ (n : ℕ). cond (begins_marked behind) (Some (record { line = n; byte = suc (length bytes - length rest + length text) }))
    (searching n (suc (length bytes - length rest + length text)) behind)) next
    ∙ ap (λ (n : ℕ). cond (begins_marked behind) (Some (record { line = line + 1; byte = n })) (searching (line + 1) n behind)) place

-- ---- A marked line is found.

marked_begins : (seal more : List ℕ) → length seal ≡ 16 → has_no_feed seal ≡ true → begins_marked (seal ++ 62 ∷ more) ≡ true
marked_begins seal more size ok =
    let mark : slice_index (seal ++ 62 ∷ more) 16 ≡ 62 = ap (λ (n : ℕ). slice_index (seal ++ 62 ∷ more) n) (sym size) ∙ at_end seal in
    ap (λ (n : ℕ). (n == 62) && has_no_feed (take 16 (seal ++ 62 ∷ more))) mark
    ∙ ap has_no_feed (take_at seal (62 ∷ more) 16 size) ∙ ok
  where
    at_end : (front : List ℕ) → slice_index (front ++ 62 ∷ more) (length front) ≡ 62
    at_end [] = refl
    at_end (x ∷ front) = at_end front

pub mark_is_found : (damaged seal more : List ℕ) → length seal ≡ 16 → has_no_feed seal ≡ true → (line byte : ℕ)
    → IsSome (searching line byte (damaged ++ 10 ∷ (seal ++ 62 ∷ more)))
unfolding searching
mark_is_found [] seal more size ok line byte =
    ap (λ (b : Bool). is_some (cond b (Some (record { line = suc line; byte = suc byte })) (searching (suc line) (suc byte) (seal ++ 62 ∷ more))))
    (marked_begins seal more size ok)
mark_is_found (d ∷ damaged) seal more size ok line byte =
    by_feed (mark_is_found damaged seal more size ok (suc line) (suc byte)) (mark_is_found damaged seal more size ok line (suc byte)) (d == 10)
    (begins_marked (damaged ++ 10 ∷ (seal ++ 62 ∷ more)))
  where
    by_feed : IsSome (searching (suc line) (suc byte) (damaged ++ 10 ∷ (seal ++ 62 ∷ more)))
        → IsSome (searching line (suc byte) (damaged ++ 10 ∷ (seal ++ 62 ∷ more))) → (f m : Bool)
        → IsSome (cond f (cond m (Some (record { line = suc line; byte = suc byte })) (searching (suc line) (suc byte) (damaged ++ 10 ∷ (seal ++ 62 ∷ more))))
        (searching line (suc byte) (damaged ++ 10 ∷ (seal ++ 62 ∷ more))))
    by_feed next goes_on true true = refl
    by_feed next goes_on true false = next
    by_feed next goes_on false m = goes_on

pub later_is_found : (damaged seal more : List ℕ) → length seal ≡ 16 → has_no_feed seal ≡ true
    → IsSome (later_write (damaged ++ 10 ∷ (seal ++ 62 ∷ more)))
later_is_found damaged seal more size ok = mark_is_found damaged seal more size ok 0 0
