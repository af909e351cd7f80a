-- What the rule of a take says, by its answer.
use Rattle.std.proofs.Common.{◌≡◌, ℕ, ◌+◌, ◌<◌, ◌≤◌, nat_lt, Bool, true, false, cond, eqb, eq-eqb, eqb-true, ltb-false, [], Option, Some, None, refl, sym, ap, ◌∙◌, subst, arith}
use Rattle.std.proofs.lemmas.Bool.Decides.{nat_tests}
use Rattle.c960_game.specs.declared.outcome.Outcome.{Outcome}
use Rattle.relay_core.specs.declared.reply.Taken.{Taken}
use Rattle.relay_core.specs.declared.reply.Taken.TheVariants.{Cut}
use Rattle.relay_core.specs.Replies.{taken_of}
use Rattle.relay_core.specs.Takes.{is_at, without_move}
use Rattle.live_board.specs.Views.{next_of}
use Rattle.live_board.specs.Seats.{FollowerSeat}
use Rattle.live_board.specs.Takes.{FoundNone, Took}

module _ (closing : Option ℕ) (next long : ℕ) (over : Option Outcome) where
  -- the rule, by its tests
  abbrev by_tests : Bool → Bool → Option Taken
  by_tests at less = cond at (Some Cut) (cond less None (Some (taken_of next over None [])))

  -- an open follower is not cut
  open_answer : (x : Option Outcome) → Some (taken_of next x None []) ≡ Some Cut → ⊥
  open_answer None e = cc
  open_answer (Some o) e = cc

  pub cut_there : without_move closing next long over ≡ Some Cut → closing ≡ Some next
  cut_there e = by closing refl e
    where
      tests : (at less : Bool) → by_tests at less ≡ Some Cut → at ≡ true
      tests true less g = refl
      tests false true g = cc
      tests false false g = absurd (open_answer over g)

      by : (o : Option ℕ) → closing ≡ o → by_tests (is_at o next) (nat_lt next long) ≡ Some Cut → closing ≡ Some next
      by None is g = let no : false ≡ true = tests false (nat_lt next long) g in cc
      by (Some c) is g = is ∙ ap Some (eqb-true c next (tests (eqb c next) (nat_lt next long) g))

  pub there_cut : closing ≡ Some next → without_move closing next long over ≡ Some Cut
  there_cut is =
      ap (λ o. by_tests (is_at o next) (nat_lt next long)) is ∙ ap (λ t. by_tests t (nat_lt next long)) (eq-eqb next next refl)

  pub more_there : without_move closing next long over ≡ None → next < long
  more_there e = by (is_at closing next) (nat_lt next long) refl e
    where
      by : (at less : Bool) → nat_lt next long ≡ less → by_tests at less ≡ None → next < long
      by true less l g = cc
      by false true l g = grind (arith, nat_tests)
      by false false l g = cc

  pub none_there : (answer : Taken) → without_move closing next long over ≡ Some answer → (answer ≡ Cut → ⊥)
      → (long ≤ next) × (answer ≡ taken_of next over None [])
  none_there answer e uncut = by (is_at closing next) (nat_lt next long) refl e
    where
      by : (at less : Bool) → nat_lt next long ≡ less → by_tests at less ≡ Some answer
          → (long ≤ next) × (answer ≡ taken_of next over None [])
      by true less l g = let same : answer ≡ Cut = cc in absurd (uncut same)
      by false true l g = cc
      by false false l g = let same : answer ≡ taken_of next over None [] = cc in (ltb-false next long l, same)

  -- hence the follower is not at its closing
  pub more_uncut : without_move closing next long over ≡ None → closing ≡ Some next → ⊥
  more_uncut e is = let g = sym e ∙ there_cut is in cc

  pub none_uncut : (answer : Taken) → without_move closing next long over ≡ Some answer → (answer ≡ Cut → ⊥) → closing ≡ Some next → ⊥
  none_uncut answer e uncut is = let g = sym e ∙ there_cut is in let same : answer ≡ Cut = cc in uncut same

-- a look that found no move
pub found_none : (f g : FollowerSeat) (answer : Taken)
    → without_move g.part.closing (next_of f.part) g.part.seen g.part.outcome ≡ Some answer
    → ((c : ℕ) → g.part.closing ≡ Some c → (next_of f.part < c) × (c ≤ g.part.seen))
    → g.part.loads ≡ f.part.loads + 1 → g.part.taken ≡ f.part.taken → next_of g.part ≡ next_of f.part → next_of g.part ≤ g.part.seen
    → Took f g answer
found_none f g answer rule closed loads taken same within =
    subst (Took f g) (sym none.1) (by g.part.outcome refl)
  where
    uncut : answer ≡ Cut → ⊥
    uncut e = let less = (closed (next_of f.part) (cut_there g.part.closing (next_of f.part) g.part.seen g.part.outcome (rule ∙ ap Some e))).0 in
        omega (arith, less)

    none : (g.part.seen ≤ next_of f.part) × (answer ≡ taken_of (next_of f.part) g.part.outcome None [])
    none = none_there g.part.closing (next_of f.part) g.part.seen g.part.outcome answer rule uncut

    open-is : (o : Option ℕ) → g.part.closing ≡ o → g.part.closing ≡ None
    open-is None e = e
    open-is (Some c) e = let q = closed c e in absurd (omega (arith, q.0, q.1, none.0))

    found : FoundNone f.part g.part
    found = (loads, taken, omega (arith, same, within, none.0), open-is g.part.closing refl)

    by : (x : Option Outcome) → g.part.outcome ≡ x → Took f g (taken_of (next_of f.part) x None [])
    by None e = (found, e)
    by (Some o) e = (found, e)
