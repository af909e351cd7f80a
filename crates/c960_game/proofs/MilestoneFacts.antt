-- Every thirty-second position: before the first move, and after one move more.
use Rattle.std.proofs.Common.{◌≡◌, ◌≢◌, ℕ, ◌+◌, ◌*◌, ◌/◌, ◌%◌, ◌<◌, ◌≤◌, List, [], ◌∷◌, ◌++◌, length, take, Some, refl, sym, ap, subst, ◌⊎◌, inl, inr, ◌∙◌, arith, length-append, get_or}
use Rattle.std.specs.Prelude.{slice_get}
use Rattle.std.proofs.Math.Seq.{get_or-append_seam, take-length}
use Rattle.std.proofs.Math.ListN.{get_or-append}
use Rattle.std.proofs.lemmas.List.{append-nil, take-append-le}
use Rattle.std.proofs.lemmas.Option.{get_or_from_slice_get, slice_get-get_or}
use Rattle.c960_board.specs.declared.parts.Parts.{Parts}
use Rattle.c960_board.specs.Moves.{Triple}
use Rattle.c960_board.specs.Start.{start}
use Rattle.c960_rules.specs.After.{after}
use Rattle.c960_game.specs.declared.kept_positions.TheConstants.{MILE}
use Rattle.c960_game.specs.Inner.KeptPositions.{AreMilestones}
use Rattle.c960_game.specs.Positions.{last_position}
use Rattle.c960_game.proofs.lemmas.LogFacts.{last_more, position_after_none}

-- the first is the start
pub first_milestone : (n : ℕ) → AreMilestones n [] (start n ∷ [])
first_milestone n = record {
  count = refl;
  each = λ k within.
      let none : k ≡ 0 = omega arith in
      rw none (ap (λ p. Some p) (sym (position_after_none (start n))));
}

lt_or_eq : (k n : ℕ) → k ≤ n → (k < n) ⊎ (k ≡ n)
lt_or_eq k n h = grind arith

-- an earlier milestone remains a milestone
still : (n : ℕ) (l : List Triple) (m : Triple) (milestones later : List Parts) → AreMilestones n l milestones
    → (k : ℕ) → k < length milestones
    → slice_get (milestones ++ later) k ≡ Some (last_position n (take (k * MILE) (l ++ m ∷ [])))
still n l m milestones later kept k within =
    let p = last_position n (take (k * MILE) l) in
    let there : get_or milestones k p ≡ p = get_or_from_slice_get milestones k p p (kept.each k within) in
    let past : k * MILE ≤ length l = omega (arith, kept.count) in
    slice_get-get_or (milestones ++ later) k p (omega (arith, length-append milestones later))
    ∙ ap (λ (q : Parts). Some q) (get_or-append milestones later p k within ∙ there)
    ∙ rw (take-append-le (k * MILE) l (m ∷ []) past) refl

-- the milestone at a thirty-second move
here : (n : ℕ) (l : List Triple) (m : Triple) (milestones : List Parts) (k : ℕ) → k * MILE ≡ length l + 1 → k ≡ length milestones
    → slice_get (milestones ++ after (last_position n l) m ∷ []) k ≡ Some (last_position n (take (k * MILE) (l ++ m ∷ [])))
here n l m milestones k full last =
    let next = after (last_position n l) m in
    let whole : k * MILE ≡ length (l ++ m ∷ []) = omega (arith, length-append l (m ∷ [])) in
    slice_get-get_or (milestones ++ next ∷ []) k next (omega (arith, length-append milestones (next ∷ [])))
    ∙ (let there : get_or (milestones ++ next ∷ []) k next ≡ next = rw last (get_or-append_seam milestones next [] next) in
    ap (λ (q : Parts). Some q) there)
    ∙ rw (whole, take-length (l ++ m ∷ []), last_more n l m) refl

-- between two milestones there is no other
pub no_milestone : (n : ℕ) (l : List Triple) (m : Triple) (milestones : List Parts) → AreMilestones n l milestones
    → (length l + 1) % MILE ≢ 0 → AreMilestones n (l ++ m ∷ []) milestones
no_milestone n l m milestones kept between = record {
  count = omega (arith, kept.count, length-append l (m ∷ []));
  each = λ k within. subst (λ ps. slice_get ps k ≡ Some (last_position n (take (k * MILE) (l ++ m ∷ [])))) (append-nil milestones)
      (still n l m milestones [] kept k within);
}

-- a thirty-second move leads to the next
pub next_milestone : (n : ℕ) (l : List Triple) (m : Triple) (milestones : List Parts) → AreMilestones n l milestones
    → (length l + 1) % MILE ≡ 0 → AreMilestones n (l ++ m ∷ []) (milestones ++ after (last_position n l) m ∷ [])
next_milestone n l m milestones kept full = record {
  count = omega (arith, kept.count, length-append l (m ∷ []), length-append milestones (after (last_position n l) m ∷ []));
  each = λ k within.
      let at_most : k ≤ length milestones = omega (arith, length-append milestones (after (last_position n l) m ∷ [])) in
      elim (lt_or_eq k (length milestones) at_most) [
        | inl before ↦ still n l m milestones (after (last_position n l) m ∷ []) kept k before
        | inr last ↦ here n l m milestones k (omega (arith, kept.count)) last
      ];
}

-- ---- Reading.

-- there is a milestone before each place
pub milestone_before : (n : ℕ) (l : List Triple) (milestones : List Parts) (place : ℕ) → AreMilestones n l milestones
    → place ≤ length l → place / MILE < length milestones
milestone_before n l milestones place kept within = omega (arith, kept.count)

-- and it is the position at that place
pub milestone_is : (n : ℕ) (l : List Triple) (milestones : List Parts) (place : ℕ) (p : Parts) → AreMilestones n l milestones
    → place ≤ length l → p ≡ get_or milestones (place / MILE) p → p ≡ last_position n (take (place / MILE * MILE) l)
milestone_is n l milestones place p kept within e =
    let there = kept.each (place / MILE) (milestone_before n l milestones place kept within) in
    e ∙ get_or_from_slice_get milestones (place / MILE) (last_position n (take (place / MILE * MILE) l)) p there
