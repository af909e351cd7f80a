-- The square on which a capture en passant is legal, and which captures are legal.
use Rattle.std.proofs.Common.{◌≡◌, ℕ, Bool, true, false, List, [], ◌∷◌, Option, Some, None, ◌↔◌, refl, sym, ◌∙◌, ap, subst, inl, inr}
use Rattle.std.specs.Prelude.{IsSome, IfSome, cond}
use Rattle.std.specs.List.{Contains, list_any}
use Rattle.std.proofs.lemmas.Bool.{and_parts, and_from, or_cases, or_left, or_right, false_from_ne_true}
use Rattle.c960_board.specs.declared.parts.Parts.{Parts}
use Rattle.c960_board.specs.Moves.{Triple}
use Rattle.c960_rules.specs.After.{is_en_passant}
use Rattle.c960_rules.specs.Effects.{with_counters}
use Rattle.c960_rules.specs.Legal.{LegalEnPassant}
use Rattle.c960_rules.specs.Tests.Legal.{is_legal, all_moves, legal_list}
use Rattle.c960_rules.proofs.lemmas.Contained.{in_none, in_first, in_rest, in_cases, kept, kept_only}
use Rattle.c960_rules.proofs.lemmas.CounterLaws.{legal_same}
use Rattle.c960_rules.proofs.lemmas.Listed.{listed, listed_only}
use Rattle.c960_rules.proofs.lemmas.MoveTests.{legal_from}
use Rattle.c960_rules.proofs.lemmas.Reached.{at_target}
use Rattle.c960_game.specs.Tests.Same.{legal_target, is_legal_en_passant}

-- ---- Whether a capture is legal.

-- an element that passes a test
some_element : {X : Type 0} (test : X → Bool) (xs : List X) (x : X) → Contains xs x → test x ≡ true
    → list_any test xs ≡ true
some_element test [] x h e = absurd (in_none x h)
some_element test (y ∷ xs) x h e =
    elim (in_cases y xs x h) [
      | inl here ↦ or_left (test y) (list_any test xs) (ap test here ∙ e)
      | inr later ↦ or_right (test y) (list_any test xs) (some_element test xs x later e)
    ]

-- and the converse
found_element : {X : Type 0} (test : X → Bool) (xs : List X) → list_any test xs ≡ true
    → (x : X) × Contains xs x × (test x ≡ true)
found_element test [] h = cc
found_element test (y ∷ xs) h =
    elim (or_cases (test y) (list_any test xs) h) [
      | inl here ↦ (y, in_first y xs, here)
      | inr later ↦ let w = found_element test xs later in (w.0, in_rest y xs w.0 w.1, w.2)
    ]

-- whether a capture en passant is legal
abbrev pub has_capture : Parts → Bool
has_capture p = list_any (is_legal_en_passant p) all_moves

-- a legal capture passes its test
capture_from : (p : Parts) (m : Triple) → LegalEnPassant p m → has_capture p ≡ true
unfolding is_legal_en_passant legal_list
capture_from p m h =
    let move = kept_only (is_legal p) all_moves m (listed p m h.legal) in
    let passes = and_from (is_en_passant p m) (is_legal p m) h.takes (legal_from p m h.legal) in
    some_element (is_legal_en_passant p) all_moves m move.0 passes

-- and what passes is a legal capture
capture_tells : (p : Parts) → has_capture p ≡ true → (m : Triple) × LegalEnPassant p m
unfolding is_legal_en_passant legal_list
capture_tells p h =
    let w = found_element (is_legal_en_passant p) all_moves h in
    let v = and_parts (is_en_passant p w.0) (is_legal p w.0) w.2 in
    (w.0, record { legal = listed_only p w.0 (kept (is_legal p) all_moves w.0 w.1 v.1); takes = v.0 })

-- ---- The square of the capture.

-- if a capture is legal, the square is the target
target_there : (p : Parts) (m : Triple) → LegalEnPassant p m → legal_target p ≡ p.target
unfolding legal_target
target_there p m h = let found = capture_from p m h in rw found refl

-- and it is the goal of the capture
goal_there : (p : Parts) (m : Triple) → LegalEnPassant p m → legal_target p ≡ Some m.to
goal_there p m h = target_there p m h ∙ (let w = at_target p m h.takes in w.target)

-- if none is legal, there is no such square
target_nowhere : (p : Parts) → ((m : Triple) × LegalEnPassant p m → ⊥) → legal_target p ≡ None
unfolding legal_target
target_nowhere p h =
    let none = false_from_ne_true (has_capture p) (λ e. h (capture_tells p e)) in rw none refl

-- if there is such a square, there is a capture
target_of_capture : (p : Parts) (t : ℕ) → legal_target p ≡ Some t → (m : Triple) × LegalEnPassant p m
unfolding legal_target
target_of_capture p t h =
    elim (has_capture p) as (λ b. has_capture p ≡ b → cond b p.target None ≡ Some t → (m : Triple) × LegalEnPassant p m) [
      | true ↦ λ e _. capture_tells p e
      | false ↦ λ e none. absurd cc
    ] refl h

-- the square, as the code finds it
pub target_found : (p : Parts) (found : Option ℕ) → (IsSome found ↔ ((m : Triple) × LegalEnPassant p m))
    → IfSome found (λ t. p.target ≡ Some t) → found ≡ legal_target p
target_found p None some value =
    sym (target_nowhere p (λ w. let never = some.1 w in absurd cc))
target_found p (Some t) some value =
    let w = some.0 refl in sym (target_there p w.0 w.1 ∙ value)

-- ---- Two positions.

-- a capture is legal whatever the counters are
capture_kept : (p : Parts) (m : Triple) (half_moves number : ℕ) → LegalEnPassant p m
    → LegalEnPassant (with_counters p half_moves number) m
unfolding is_en_passant
capture_kept p m half_moves number h =
    record { legal = legal_same p m half_moves number h.legal; takes = h.takes }

-- a position with the other's counters, if everything else is equal
counters_apart : (p q : Parts) → p.turn ≡ q.turn → p.placement ≡ q.placement → p.rights ≡ q.rights
    → p.target ≡ q.target → with_counters p q.half_moves q.number ≡ q
counters_apart p q turn placement rights target =
    λ i. record {
      placement = placement i;
      turn = turn i;
      rights = rights i;
      target = target i;
      half_moves = q.half_moves;
      number = q.number;
    }

-- a capture is legal in the other position too
capture_carried : (p q : Parts) (m : Triple) → p.turn ≡ q.turn → p.placement ≡ q.placement → p.rights ≡ q.rights
    → legal_target p ≡ legal_target q → LegalEnPassant p m → LegalEnPassant q m
capture_carried p q m turn placement rights target h =
    let there = target_of_capture q m.to (sym target ∙ goal_there p m h) in
    let equal = sym (target_there p m h) ∙ target ∙ target_there q there.0 there.1 in
    subst (λ (x : Parts). LegalEnPassant x m) (counters_apart p q turn placement rights equal)
    (capture_kept p m q.half_moves q.number h)

-- if the turn, the placement, the rights and the square are equal, the same captures are legal
pub same_captures : (p q : Parts) → p.turn ≡ q.turn → p.placement ≡ q.placement → p.rights ≡ q.rights
    → legal_target p ≡ legal_target q → (m : Triple) → LegalEnPassant p m ↔ LegalEnPassant q m
same_captures p q turn placement rights target m = (
  capture_carried p q m turn placement rights target,
  capture_carried q p m (sym turn) (sym placement) (sym rights) (sym target),
)

-- if the same captures are legal, the squares are equal
pub same_targets : (p q : Parts) → ((m : Triple) → LegalEnPassant p m ↔ LegalEnPassant q m)
    → legal_target p ≡ legal_target q
same_targets p q h =
    elim (has_capture p) as (λ b. has_capture p ≡ b → legal_target p ≡ legal_target q) [
      | true ↦ λ e.
          let w = capture_tells p e in
          goal_there p w.0 w.1 ∙ sym (goal_there q w.0 ((h w.0).0 w.1))
      | false ↦ λ e.
          let nowhere : (m : Triple) × LegalEnPassant p m → ⊥ = λ w. let found = capture_from p w.0 w.1 in absurd cc in
          target_nowhere p nowhere ∙ sym (target_nowhere q (λ w. nowhere (w.0, (h w.0).1 w.1)))
    ] refl
