-- Where the first line feed stands.
use Rattle.std.proofs.Common.{refl, ◌≡◌, ℕ, suc, ◌+◌, ◌-◌, ◌<◌, true, false, List, [], ◌∷◌, ◌++◌, length, take, drop, get_or, ◌∙◌, sym, ap, arith}
use Rattle.std.specs.Prelude.{◌==◌, not, Option, Some, None, is_some}
use Rattle.std.proofs.Math.Bool.{and-false}
use Rattle.std.proofs.lemmas.List.Folds.{list_all-append}
use Rattle.std.proofs.lemmas.Bool.{eqb-true, false_from_ne_true}
use Rattle.std.proofs.lemmas.List.{drop_more, get_or-take, length-take-le, take_rest, take-append-drop}
use Rattle.memchr.specs.Find.{IsFirstByte, is_byte}
use Rattle.chained_lines.specs.Lines.{has_no_feed, is_no_feed}

all_places : (text : List ℕ) → ((i : ℕ) → i < length text → (get_or text i 0 == 10) ≡ true → ⊥) → has_no_feed text ≡ true
all_places [] each = refl
all_places (b ∷ text) each =
    let this : (b == 10) ≡ false = false_from_ne_true (b == 10) (each 0 (omega arith)) in
    let rest = all_places text (λ i lt. each (suc i) (omega (arith, lt))) in
    grind (arith, this, rest)

pub none_at : (bytes : List ℕ) → IsFirstByte (is_byte 10) bytes None → has_no_feed bytes ≡ true
none_at bytes nowhere = all_places bytes (λ i lt. nowhere i (omega arith) lt)

pub first_at : (bytes : List ℕ) (at : ℕ) → IsFirstByte (is_byte 10) bytes (Some at) → has_no_feed (take at bytes) ≡ true
first_at bytes at first =
    let size : length (take at bytes) ≡ at = length-take-le at bytes (omega (arith, first.0.high)) in
    all_places (take at bytes) (λ i lt is. first.0.before i (omega arith) (omega (arith, size, lt)) (ap (λ (n : ℕ). n == 10) (sym (get_or-take at bytes i 0 (omega (arith, size, lt)))) ∙ is))

pub parts_at : (bytes : List ℕ) (at : ℕ) → IsFirstByte (is_byte 10) bytes (Some at)
    → bytes ≡ take at bytes ++ 10 ∷ take (length bytes - (at + 1)) (drop (at + 1) bytes)
parts_at bytes at first =
    let feed : get_or bytes at 0 ≡ 10 = eqb-true (get_or bytes at 0) 10 first.1 in
    sym (take-append-drop at bytes)
    ∙ ap (λ (t : List ℕ). take at bytes ++ t) (drop_more bytes at 0 first.0.high ∙ ap (λ (n : ℕ). n ∷ drop (at + 1) bytes) feed ∙ ap (λ (t : List ℕ). 10 ∷ t) (sym (take_rest bytes (at + 1))))

-- whether there is one
pub no_feed_is : (bytes : List ℕ) (at : Option ℕ) → IsFirstByte (is_byte 10) bytes at → has_no_feed bytes ≡ not (is_some at)
no_feed_is bytes None nowhere = none_at bytes nowhere
no_feed_is bytes (Some at) first =
    ap has_no_feed (parts_at bytes at first) ∙ list_all-append is_no_feed (take at bytes) (10 ∷ take (length bytes - (at + 1)) (drop (at + 1) bytes))
    ∙ and-false (has_no_feed (take at bytes))
