-- 1. The table is made.
use Rattle.std.proofs.Common.{◌≡◌, ℕ, zero, suc, ◌+◌, ◌<◌, List, [], ◌∷◌, length, get_or, replicate, None, sym, refl, ap, ◌∙◌, subst, arith}
use Rattle.std.proofs.lemmas.List.{get_or-replicate, length-replicate}
use mathlib.Core.Option.{some, some-injective, some-ne-none}
use lib.ListN.{get_elem?}
use Rattle.atomic_table.specs.Table.{opening}
use Rattle.live_board.specs.Events.{opened}
use Rattle.live_board.proofs.EventFacts.{opens}
use Rattle.live_board.specs.declared.note.Note.{Note}
use Rattle.live_board.specs.declared.note.Note.TheVariants.{Vacant}
use Rattle.live_board.specs.declared.view.Part.{Part}
use Rattle.live_board.specs.declared.view.View.{View}
use Rattle.live_board.specs.Words.{header_word}
use Rattle.live_board.specs.Views.{starting}
use Rattle.live_board.specs.Shows.{IsTrueNote, ShowsBoard, Shows}
use Rattle.live_board.specs.Kinds.{MakesTheTable}

pub makes_the_table : MakesTheTable
makes_the_table z numbered limits ws is =
    let rest : List ℕ = replicate (z.limits.followers + z.limits.plies + 1) 0 in
    let head : ℕ = header_word z.start z.limits.capacity in
    let a = opened z.start in
    let zeros : (k : ℕ) → k < z.limits.followers + z.limits.plies + 1 → get_or (head ∷ rest) (suc k) 0 ≡ 0 = λ k h. get_or-replicate (z.limits.followers + z.limits.plies + 1) k 0 0 h in
    let cursor : (k : ℕ) → get_or (head ∷ rest) (k + 2) 0 ≡ get_or (head ∷ rest) (suc (k + 1)) 0 = λ k. let e : k + 2 ≡ suc (k + 1) = omega arith in ap (λ (n : ℕ). get_or (head ∷ rest) n 0) e in (
      (numbered, refl),
      subst (λ (l : List ℕ). Shows z a (opening l [] (starting z))) (sym is) (record {
        limits = limits;
        start_is = refl;
        shared = opens z.limits z.start numbered;
        count = let l : length rest ≡ z.limits.followers + z.limits.plies + 1 = length-replicate (z.limits.followers + z.limits.plies + 1) 0 in omega arith;
        header = refl;
        status = zeros 0 (omega arith);
        cursors = λ k h. cursor k ∙ zeros (k + 1) (omega arith);
        moves = λ k h. absurd (omega arith);
        board = λ j v e o. let t = only j v e in (
          t.0,
          subst (ShowsBoard z a (head ∷ rest)) t.1 (record {
            log_is = refl;
            outcome_is = refl;
            setup_is = refl;
            stored = tt;
            noted = length-replicate z.limits.followers Vacant;
            checked = length-replicate z.limits.followers 0;
            notes = λ k n d. subst (λ (x : Note). IsTrueNote x None) (all_vacant z.limits.followers k n d) refl;
          }),
        );
        parts = λ j v e i p d. absurd (nobody (only j v e).1 i p d);
        owner = (starting z, refl, refl);
        one_part = λ k h. refl;
      }),
    )
  where
    only : (j : ℕ) (v : View) → get_elem? (starting z ∷ []) j ≡ some v → (j ≡ 0) × (starting z ≡ v)
    only zero v e = (refl, some-injective (starting z) v e)
    only (suc j) v e = absurd (some-ne-none v (sym e))

    nobody : {v : View} → starting z ≡ v → (i : ℕ) (p : Part) → get_elem? v.parts i ≡ some p → ⊥
    nobody same i p d = some-ne-none p (sym (ap (λ (u : View). get_elem? u.parts i) same ∙ d))

    all_vacant : (m k : ℕ) (n : Note) → get_elem? (replicate m Vacant) k ≡ some n → Vacant ≡ n
    all_vacant zero k n d = absurd (some-ne-none n (sym d))
    all_vacant (suc m) zero n d = some-injective Vacant n d
    all_vacant (suc m) (suc k) n d = all_vacant m k n d
