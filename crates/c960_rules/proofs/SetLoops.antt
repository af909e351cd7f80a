-- A loop over the squares of a set, ascending, that adds a stretch for each.
use Rattle.std.proofs.Common.{◌≡◌, ℕ, zero, suc, ◌+◌, ◌<◌, ◌≤◌, Bool, true, false, cond, List, [], ◌∷◌, ◌++◌, refl, ap, sym, subst, ◌∙◌, append_assoc, inl, inr, arith}
use Rattle.std.specs.Prelude.{◌==◌}
use Rattle.std.specs.Int.{bit_at}
use Rattle.std.specs.List.{range_with_len, filter, flat_map}
use Rattle.std.proofs.lemmas.Bool.{cases_eq, eq-eqb}
use Rattle.std.proofs.lemmas.List.Elements.{filter-append}
use Rattle.std.proofs.lemmas.Nat.Bits.{bit_at-zero}
use Rattle.c960_board.specs.declared.parts.Parts.{Parts}
use Rattle.c960_board.specs.Moves.{Triple}
use Rattle.c960_rules.specs.Lines.{squares}
use Rattle.c960_rules.specs.Tests.Legal.{is_legal, legal_list}
use Rattle.c960_rules.specs.Inner.Listing.{moves_between, moves_to_below, moves_from, moves_from_below, legal_between, legal_on, stretches_in}
use Rattle.c960_board.specs.Sets.{is_in}
use Rattle.c960_rules.specs.Inner.Wheres.{IsWithout}
use Rattle.c960_rules.proofs.ListFacts.{all_are}

-- sets that agree from a on have the same stretches
pub stretches_agree : (f : ℕ → List Triple) (a b start n : ℕ)
    → ((i : ℕ) → start ≤ i → i < start + n → is_in a i ≡ is_in b i)
    → stretches_in f a (range_with_len start n) ≡ stretches_in f b (range_with_len start n)
unfolding stretches_in
stretches_agree f a b start zero h = refl
stretches_agree f a b start (suc n) h =
    let here = h start (omega arith) (omega arith) in
    let rest = stretches_agree f a b (start + 1) n (λ i l m. h i (omega arith) (omega arith)) in
    rw (here, rest)

-- the stretch of the lowest square comes first
pub stretches_first : (f : ℕ → List Triple) (left k rest start n : ℕ) → IsWithout left k rest
    → ((i : ℕ) → i < k → bit_at left i ≡ 0) → start ≤ k → k < start + n → start + n ≤ 64
    → stretches_in f left (range_with_len start n) ≡ f k ++ stretches_in f rest (range_with_len start n)
unfolding stretches_in
stretches_first f left k rest start zero w least low high within = absurd (omega arith)
stretches_first f left k rest start (suc n) w least low high within =
    elim (cases_eq start k) [
      | inl e ↦
          let on = eq-eqb (bit_at left k) 1 w.was in
          let off : is_in rest k ≡ false = let gone = w.gone in rw gone in
          let same = stretches_agree f left rest (start + 1) n
          (λ i l m. let other = w.others i (omega arith) (omega arith) in rw other) in
          rw (e, on, off) (ap (λ (l : List Triple). f k ++ l) (rw e at same))
      | inr ne ↦
          let zero_here = least start (omega arith) in
          let other = w.others start (omega arith) ne in
          let off : is_in left start ≡ false = rw zero_here in
          let off_too : is_in rest start ≡ false = rw (other, zero_here) in
          rw (off, off_too) (stretches_first f left k rest (start + 1) n w least (omega arith) (omega arith) (omega arith))
    ]

-- after what was added before
pub stretches_step : (f : ℕ → List Triple) (all before moved : List Triple) (left k rest : ℕ) → IsWithout left k rest
    → ((i : ℕ) → i < k → bit_at left i ≡ 0)
    → before ++ stretches_in f left squares ≡ all → moved ≡ before ++ f k → moved ++ stretches_in f rest squares ≡ all
stretches_step f all before moved left k rest w least is e =
    let board = w.on_board in
    let first = stretches_first f left k rest 0 64 w least (omega arith) (omega arith) (omega arith) in
    rw e (append_assoc before (f k) (stretches_in f rest squares) ∙ (ap (λ (l : List Triple). before ++ l) (sym first) ∙ is))

-- the empty set has none
stretches_zero : (f : ℕ → List Triple) (start n : ℕ) → stretches_in f 0 (range_with_len start n) ≡ []
unfolding stretches_in
stretches_zero f start zero = refl
stretches_zero f start (suc n) =
    let off : is_in 0 start ≡ false = let bit = bit_at-zero start in rw bit in
    rw off (stretches_zero f (start + 1) n)

pub stretches_none : (f : ℕ → List Triple) (left : ℕ) → left ≡ 0 → stretches_in f left squares ≡ []
stretches_none f left e = ap (λ (s : ℕ). stretches_in f s squares) e ∙ stretches_zero f 0 64

-- a set outside of which the stretches are empty has them all
pub stretches_all : (f : ℕ → List Triple) (set start n : ℕ)
    → ((t : ℕ) → t < start + n → is_in set t ≡ false → f t ≡ [])
    → stretches_in f set (range_with_len start n) ≡ flat_map f (range_with_len start n)
unfolding stretches_in
stretches_all f set start zero h = refl
stretches_all f set start (suc n) h =
    let rest = stretches_all f set (start + 1) n (λ t l e. h t (omega arith) e) in
    rw rest (elim (is_in set start) as (λ b. is_in set start ≡ b → cond b (f start) [] ++ flat_map f (range_with_len (start + 1) n) ≡ f start ++ flat_map f (range_with_len (start + 1) n)) [
      | true ↦ λ e. refl
      | false ↦ λ e. let none = h start (omega arith) e in rw none
    ] refl)

-- stretches that agree on the squares of the set
pub stretches_alike : (f g : ℕ → List Triple) (set start n : ℕ) → ((t : ℕ) → t < start + n → is_in set t ≡ true → f t ≡ g t)
    → stretches_in f set (range_with_len start n) ≡ stretches_in g set (range_with_len start n)
unfolding stretches_in
stretches_alike f g set start zero h = refl
stretches_alike f g set start (suc n) h =
    let rest = stretches_alike f g set (start + 1) n (λ t l e. h t (omega arith) e) in
    rw rest (elim (is_in set start) as (λ b. is_in set start ≡ b → cond b (f start) [] ++ stretches_in g set (range_with_len (start + 1) n) ≡ cond b (g start) [] ++ stretches_in g set (range_with_len (start + 1) n)) [
      | true ↦ λ e. let here = h start (omega arith) e in rw here refl
      | false ↦ λ e. refl
    ] refl)

-- a filter of stretches is the stretches filtered
pub filter_stretches : (test : Triple → Bool) (f : ℕ → List Triple) (xs : List ℕ)
    → filter test (flat_map f xs) ≡ flat_map (λ t. filter test (f t)) xs
filter_stretches test f [] = refl
filter_stretches test f (x ∷ xs) =
    filter-append test (f x) (flat_map f xs) ∙ ap (λ (l : List Triple). filter test (f x) ++ l) (filter_stretches test f xs)

-- the legal moves from a square, goal by goal
pub legal_on_is : (p : Parts) (s : ℕ) → flat_map (legal_between p s) squares ≡ legal_on p s
unfolding legal_on legal_between moves_from moves_to_below
legal_on_is p s = sym (filter_stretches (is_legal p) (moves_between s) squares)

-- all legal moves, square by square
pub legal_list_is : (p : Parts) → flat_map (legal_on p) squares ≡ legal_list p
unfolding legal_list legal_on moves_from_below
legal_list_is p = sym (filter_stretches (is_legal p) moves_from squares) ∙ ap (filter (is_legal p)) all_are

-- ---- A loop over the squares of a set that looks for one.

-- one square more has it not
pub searched_more : (P : ℕ → Type 0) (left k rest : ℕ) → IsWithout left k rest
    → ((s : ℕ) → s < 64 → is_in left s ≡ false → P s → ⊥) → (P k → ⊥) → (s : ℕ) → s < 64 → is_in rest s ≡ false → P s → ⊥
searched_more P left k rest w before none s l out h =
    elim (cases_eq s k) [
      | inl e ↦ none (subst P e h)
      | inr ne ↦ before s l (ap (λ (b : ℕ). b == 1) (sym (w.others s l ne)) ∙ out) h
    ]

-- no square is left
pub searched_all : (left s : ℕ) → left ≡ 0 → is_in left s ≡ false
searched_all left s e = ap (λ (x : ℕ). is_in x s) e ∙ (let bit = bit_at-zero s in rw bit)
