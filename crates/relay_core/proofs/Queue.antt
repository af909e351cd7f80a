-- A follower's queue, cut and log over one more move, in plain variables.
use Rattle.std.proofs.Common.{◌≡◌, ℕ, ◌+◌, ◌-◌, eqb, ◌≤◌, Bool, true, false, not, ◌&&◌, cond, is_some, List, [], ◌∷◌, ◌++◌, length, length-drop, take, drop, Option, Some, None, unwrap_or, refl, sym, ap, arith}
use Rattle.std.proofs.lemmas.List.{take-append-le, drop-append-le}
use Rattle.std.proofs.Math.Seq.{take-length}
use Rattle.std.proofs.lemmas.Bool.Decides.{nat_tests}
use Rattle.c960_board.specs.Moves.{Triple}
use Rattle.relay_core.specs.Held.{HeldFollower}

-- the first of two cuts
abbrev pub cut_by : Option ℕ → Bool → ℕ → Option ℕ
cut_by (Some cut) behind place = Some cut
cut_by None behind place = cond behind (Some place) None

-- what is due from a log
abbrev pub due_of : ℕ → Option ℕ → List Triple → List Triple
due_of from cut l = drop from (take (unwrap_or cut (length l)) l)

ahead : (a n c : ℕ) → n ≤ a → eqb (a - n) c ≡ eqb a (n + c)
ahead a n c h = grind (arith, nat_tests)

-- the queue is full if the log is a capacity ahead
full_test : (from capacity : ℕ) (l : List Triple) → from ≤ length l
    → eqb (length (due_of from None l)) capacity ≡ eqb (length l) (from + capacity)
full_test from capacity l h = rw (take-length l, length-drop from l) (ahead (length l) from capacity h)

module _ (to : List ℕ) (joined taken capacity from : ℕ) (m : Triple) where
  abbrev pub shape : Option ℕ → List Triple → HeldFollower
  shape cut items = record { board = to; joined = joined; taken = taken; cut = cut; queue = items; capacity = capacity }

  pub one_more : (same : Bool) (cut : Option ℕ) (behind : Bool) (place : ℕ) (l : List Triple)
      → (same ≡ true → place ≡ length l) → behind ≡ (same && eqb place (from + capacity))
      → from ≤ unwrap_or cut (length l) → unwrap_or cut (length l) ≤ length l
      → cond (same && not (is_some cut)) (cond (eqb (length (due_of from cut l)) capacity)
      (shape (Some place) (due_of from cut l)) (shape cut (due_of from cut l ++ m ∷ []))) (shape cut (due_of from cut l))
      ≡ shape (cut_by cut behind place) (due_of from (cut_by cut behind place) (cond same (l ++ m ∷ []) l))
  one_more false (Some c) behind place l at is low high = refl
  one_more false None behind place l at is low high = rw is refl
  one_more true (Some c) behind place l at is low high =
      ap (λ t. shape (Some c) (drop from t)) (sym (take-append-le c l (m ∷ []) high))
  one_more true None behind place l at is low high =
      rw (is, at refl, full_test from capacity l low) (by (eqb (length l) (from + capacity)))
    where
      by : (full : Bool) → cond full (shape (Some (length l)) (due_of from None l)) (shape None (due_of from None l ++ m ∷ []))
          ≡ shape (cond full (Some (length l)) None) (due_of from (cond full (Some (length l)) None) (l ++ m ∷ []))
      by true = ap (λ t. shape (Some (length l)) (drop from t)) (sym (take-append-le (length l) l (m ∷ []) (omega arith)))
      by false = rw (take-length l, take-length (l ++ m ∷ [])) (ap (shape None) (sym (drop-append-le from l (m ∷ []) low)))
