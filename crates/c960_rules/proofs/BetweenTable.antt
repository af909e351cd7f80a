-- The table of the squares between, against the definition. This is checked by computation over all squares.
use Rattle.std.proofs.Common.{◌≡◌, ℕ, ◌+◌, ◌*◌, ◌/◌, ◌%◌, ◌<◌, ◌⊎◌, inl, inr, Bool, true, false, ◌&&◌, ◌||◌, cond, List, map, get_or, refl, ap, sym, ◌∙◌, zero-add, arith}
use Rattle.std.proofs.lemmas.Bool.{and_parts, or_cases, or_left, or_right, eqb-true, eq-eqb, ltb-true, false_from_ne_true, true≢false}
use Rattle.std.proofs.lemmas.List.FromFn.{get_or-map-range_with_len}
use Rattle.std.specs.Prelude.{nat_lt}
use Rattle.std.specs.List.{range_with_len}
use Rattle.c960_board.specs.Squares.{file_of, rank_of}
use Rattle.c960_rules.specs.declared.tables.between.TheConstants.{BETWEEN}
use Rattle.c960_rules.specs.Lines.{between, distance, file_distance, on_line, rank_distance, same_diagonal, same_file, same_rank, within}
use Rattle.c960_rules.specs.Inner.Wheres.{where_set}
use Rattle.c960_rules.proofs.WhereFacts.{where_agree}

-- The set of the squares between two: none, unless the two are on one line. Most are not, which spares most of the computation.
abbrev pub set_between : ℕ → ℕ → ℕ
set_between s t = cond (on_line s t) (where_set (λ u. between s u t)) 0

pub between_table : BETWEEN ≡ map (λ n. set_between (n / 64) (n % 64)) (range_with_len 0 4096)
unfolding where_set
between_table = refl

-- a place of a table of a function of two squares
pub place_of : (f : ℕ → ℕ → ℕ) (table : List ℕ) (s t n : ℕ)
    → table ≡ map (λ k. f (k / 64) (k % 64)) (range_with_len 0 4096)
    → n ≡ s * 64 + t → s < 64 → t < 64 → get_or table n 0 ≡ f s t
place_of f table s t n e is a b =
    let high : n / 64 ≡ s = omega arith in
    let low : n % 64 ≡ t = omega arith in
    ap (λ (l : List ℕ). get_or l n 0) e
    ∙ get_or-map-range_with_len (λ k. f (k / 64) (k % 64)) 0 4096 n n 0 (omega arith) (zero-add n)
    ∙ rw (high, low)

-- ---- Squares with another between them are on one line.

ordered : (a b c : ℕ) → within a b c ≡ true → ((a < b) × (b < c)) ⊎ ((c < b) × (b < a))
ordered a b c h =
    elim (or_cases (nat_lt a b && nat_lt b c) (nat_lt c b && nat_lt b a) h) [
      | inl e ↦ let w = and_parts (nat_lt a b) (nat_lt b c) e in inl (ltb-true a b w.0, ltb-true b c w.1)
      | inr e ↦ let w = and_parts (nat_lt c b) (nat_lt b a) e in inr (ltb-true c b w.0, ltb-true b a w.1)
    ]

-- distances over what is between add up
added : (a b c : ℕ) → within a b c ≡ true → distance a c ≡ distance a b + distance b c
added a b c h =
    elim (ordered a b c h) [
      | inl w ↦ let x = w.0 in let y = w.1 in omega (arith, x, y)
      | inr w ↦ let x = w.0 in let y = w.1 in omega (arith, x, y)
    ]

on_rank : (s u t : ℕ) (w : Bool) → (same_rank s u && (same_rank u t && w)) ≡ true → on_line s t ≡ true
on_rank s u t w h =
    let one = and_parts (same_rank s u) (same_rank u t && w) h in
    let two = and_parts (same_rank u t) w one.1 in
    let same = eqb-true (rank_of s) (rank_of u) one.0 ∙ eqb-true (rank_of u) (rank_of t) two.0 in
    or_left (same_rank s t) (same_file s t || same_diagonal s t) (eq-eqb (rank_of s) (rank_of t) same)

on_file : (s u t : ℕ) (w : Bool) → (same_file s u && (same_file u t && w)) ≡ true → on_line s t ≡ true
on_file s u t w h =
    let one = and_parts (same_file s u) (same_file u t && w) h in
    let two = and_parts (same_file u t) w one.1 in
    let same = eqb-true (file_of s) (file_of u) one.0 ∙ eqb-true (file_of u) (file_of t) two.0 in
    or_right (same_rank s t) (same_file s t || same_diagonal s t)
    (or_left (same_file s t) (same_diagonal s t) (eq-eqb (file_of s) (file_of t) same))

on_diagonal : (s u t : ℕ)
    → (same_diagonal s u && (same_diagonal u t && (within (file_of s) (file_of u) (file_of t) && within (rank_of s) (rank_of u) (rank_of t)))) ≡ true
    → on_line s t ≡ true
on_diagonal s u t h =
    let files = within (file_of s) (file_of u) (file_of t) in
    let ranks = within (rank_of s) (rank_of u) (rank_of t) in
    let one = and_parts (same_diagonal s u) (same_diagonal u t && (files && ranks)) h in
    let two = and_parts (same_diagonal u t) (files && ranks) one.1 in
    let both = and_parts files ranks two.1 in
    let near = eqb-true (file_distance s u) (rank_distance s u) one.0 in
    let far = eqb-true (file_distance u t) (rank_distance u t) two.0 in
    let by_files = added (file_of s) (file_of u) (file_of t) both.0 in
    let by_ranks = added (rank_of s) (rank_of u) (rank_of t) both.1 in
    let same : file_distance s t ≡ rank_distance s t = by_files ∙ rw (near, far) (sym by_ranks) in
    or_right (same_rank s t) (same_file s t || same_diagonal s t)
    (or_right (same_file s t) (same_diagonal s t) (eq-eqb (file_distance s t) (rank_distance s t) same))

lined : (s u t : ℕ) → between s u t ≡ true → on_line s t ≡ true
lined s u t h =
    let rank = same_rank s u && (same_rank u t && within (file_of s) (file_of u) (file_of t)) in
    let file = same_file s u && (same_file u t && within (rank_of s) (rank_of u) (rank_of t)) in
    let both = within (file_of s) (file_of u) (file_of t) && within (rank_of s) (rank_of u) (rank_of t) in
    let diagonal = same_diagonal s u && (same_diagonal u t && both) in
    elim (or_cases rank (file || diagonal) h) [
      | inl e ↦ on_rank s u t (within (file_of s) (file_of u) (file_of t)) e
      | inr e ↦
          elim (or_cases file diagonal e) [
            | inl f ↦ on_file s u t (within (rank_of s) (rank_of u) (rank_of t)) f
            | inr d ↦ on_diagonal s u t d
          ]
    ]

-- so without a line there is none between
none_between : (s t u : ℕ) → on_line s t ≡ false → between s u t ≡ false
none_between s t u none = false_from_ne_true (between s u t) (λ yes. absurd (true≢false (sym (lined s u t yes) ∙ none)))

-- and this is the set of the squares between
by_line : (s t : ℕ) (line : Bool) → on_line s t ≡ line → cond line (where_set (λ u. between s u t)) 0 ≡ where_set (λ u. between s u t)
unfolding where_set
by_line s t true e = refl
by_line s t false e = where_agree (λ u. false) (λ u. between s u t) (λ u l. sym (none_between s t u e))

pub set_between_is : (s t : ℕ) → set_between s t ≡ where_set (λ u. between s u t)
set_between_is s t = by_line s t (on_line s t) refl
