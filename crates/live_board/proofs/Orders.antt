-- A submit makes its steps in order.
use Rattle.std.proofs.Common.{◌≡◌, ℕ, zero, suc, ◌+◌, ◌-◌, inl, inr, List, [], ◌∷◌, ◌++◌, append_assoc, sym, refl, ap, ◌∙◌, arith}
use Rattle.std.proofs.lemmas.List.{append-nil}
use Rattle.c960_board.specs.Moves.{Triple}
use Rattle.live_board.specs.declared.step.BoardStep.{BoardStep}
use Rattle.live_board.specs.declared.step.BoardStep.TheVariants.{CursorLoaded, CursorExchanged, MoveStored, StatusStored}
use Rattle.live_board.specs.declared.view.View.{View}
use Rattle.live_board.specs.TableWriter.{Tried, TriedBelow, Submitted}
use Rattle.live_board.specs.Order.{DoneAt, DoneBelow, SubmittedInOrder}
use Rattle.live_board.proofs.lemmas.Tries.{by_try}

-- the steps of a try at the cursor k
abbrev Done : View → ℕ → View → Type 0
Done v k w = (here : List BoardStep) × DoneAt k here × (w.made ≡ v.made ++ here)

done_at : (v w : View) (k : ℕ) → Tried v k w → Done v k w
done_at v w k t = by_try (Done v k) v w k t
    (λ _. ([], inl refl, sym (append-nil v.made)))
    (λ r _ _. (CursorLoaded k ∷ [], inr (inl refl), ap (λ (j : ℕ). v.made ++ CursorLoaded j ∷ []) here))
    (λ r place _ _. twice)
    (λ r place n _ _ _ _. twice)
  where
    here : k + 2 - 2 ≡ k
    here = omega arith

    twice : (both : List BoardStep) × DoneAt k both × ((v.made ++ CursorLoaded (k + 2 - 2) ∷ []) ++ CursorExchanged (k + 2 - 2) ∷ [] ≡ v.made ++ both)
    twice = (
      CursorLoaded k ∷ CursorExchanged k ∷ [],
      inr (inr refl),
      append_assoc v.made (CursorLoaded (k + 2 - 2) ∷ []) (CursorExchanged (k + 2 - 2) ∷ []) ∙ ap (λ (j : ℕ). v.made ++ CursorLoaded j ∷ CursorExchanged j ∷ []) here,
    )

done_below : (n : ℕ) (v w : View) → TriedBelow n v w → (steps : List BoardStep) × DoneBelow n steps × (w.made ≡ v.made ++ steps)
done_below zero v w is = ([], refl, ap (λ (x : View). x.made) is ∙ sym (append-nil v.made))
done_below (suc n) v w (u, before, last) =
    let a = done_below n v u before in
    let b = done_at u w n last in
    (a.0 ++ b.0, (a.0, b.0, a.1, b.1, refl), b.2 ∙ ap (λ (l : List BoardStep). l ++ b.0) a.2 ∙ append_assoc v.made a.0 b.0)

pub submitted_in_order : (m : Triple) (v w : View) → Submitted m v w → SubmittedInOrder v w
submitted_in_order m v w (u, below, is) =
    let a = done_below v.setup.limits.followers v u below in (
      a.0,
      a.1,
      ap (λ (x : View). x.made) is ∙ append_assoc u.made (MoveStored ∷ []) (StatusStored ∷ [])
          ∙ ap (λ (l : List BoardStep). l ++ MoveStored ∷ StatusStored ∷ []) a.2 ∙ append_assoc v.made a.0 (MoveStored ∷ StatusStored ∷ []),
    )
