-- The followers of a board when the one in one slot changes.
use Rattle.std.proofs.Common.{◌≡◌, ◌≢◌, ℕ, Option, sym, refl, ap, subst, cond, eq-eqb, ne_eqb}
use mathlib.Core.Logic.{dite}
use native.Mathlib.Decide.{ℕ_discrete}
use Rattle.live_board.specs.SharedBoard.{SharedFollower, with_follower}

pub with_here : (fs : ℕ → Option SharedFollower) (k : ℕ) (o : Option SharedFollower) → with_follower fs k o k ≡ o
with_here fs k o = ap (λ b. cond b o (fs k)) (eq-eqb k k refl)

pub with_there : (fs : ℕ → Option SharedFollower) (k : ℕ) (o : Option SharedFollower) (j : ℕ) → j ≢ k → with_follower fs k o j ≡ fs j
with_there fs k o j ne = ap (λ b. cond b o (fs j)) (ne_eqb j k ne)

-- what holds in the slot k and in all others
pub with_cases : (fs : ℕ → Option SharedFollower) (k : ℕ) (o : Option SharedFollower) (P : ℕ → Option SharedFollower → Type 0)
    → P k o → ((j : ℕ) → j ≢ k → P j (fs j)) → (j : ℕ) → P j (with_follower fs k o j)
with_cases fs k o P here there j =
    dite (ℕ_discrete j k)
    (λ (e : j ≡ k). subst (λ (x : ℕ). P x (with_follower fs k o x)) (sym e) (subst (P k) (sym (with_here fs k o)) here))
    (λ ne. subst (P j) (sym (with_there fs k o j ne)) (there j ne))
