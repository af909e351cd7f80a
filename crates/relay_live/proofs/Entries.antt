-- Entries that come and go, and how many of them follow a board.
use Rattle.std.proofs.Common.{◌≡◌, ◌≢◌, ℕ, zero, suc, ◌+◌, nat_eq, Bool, true, false, eqb-true, List, [], ◌∷◌, ◌++◌, cond, Some, sym, refl, ap, ◌∙◌, arith, replicate}
use Rattle.std.specs.Prelude.{count_by}
use Rattle.std.specs.Map.{lookup, remove_entry}
use Rattle.std.proofs.lemmas.List.Sums.{sum_by-cons, sum_by_push}
use Rattle.std.proofs.lemmas.Option.{same_Some, none-some}
use mathlib.Core.Option.{some, some-injective, some-ne-none}
use lib.ListN.{get_elem?}
use Rattle.relay_core.specs.Name.{same_name}
use Rattle.live_board.specs.declared.note.Note.{Note}
use Rattle.live_board.specs.declared.note.Note.TheVariants.{Vacant, Open, Closed}
use Rattle.live_board.specs.declared.view.Part.{Part}
use Rattle.live_board.specs.Shows.{total}
use Rattle.live_board.specs.Views.{without}
use Rattle.live_board.proofs.lemmas.Cases.{pick}
use Rattle.relay_live.specs.declared.seated.Seated.{Seated}
use Rattle.relay_live.specs.Live.{vacancy}

-- ---- One entry is gone.

-- the old index of an entry that has the index i after the one at j was removed
abbrev pub up : ℕ → ℕ → ℕ
up zero i = suc i
up (suc j) zero = zero
up (suc j) (suc i) = suc (up j i)

zero_suc : (n : ℕ) → suc n ≢ zero
zero_suc n h = cc

down : (i j : ℕ) → suc i ≡ suc j → i ≡ j
down i j h = cc

pub up_apart : (j i : ℕ) → up j i ≢ j
up_apart zero i e = zero_suc i e
up_apart (suc j) zero e = zero_suc j (sym e)
up_apart (suc j) (suc i) e = up_apart j i (down (up j i) j e)

pub up_one : (j i k : ℕ) → up j i ≡ up j k → i ≡ k
up_one zero i k e = down i k e
up_one (suc j) zero zero e = refl
up_one (suc j) zero (suc k) e = absurd (zero_suc (up j k) (sym e))
up_one (suc j) (suc i) zero e = absurd (zero_suc (up j i) e)
up_one (suc j) (suc i) (suc k) e = ap suc (up_one j i k (down (up j i) (up j k) e))

abbrev pub Removed : {K V : Type 0} → (K → Bool) → List (K × V) → V → Type 0
Removed {K} {V} test es f = (j : ℕ) × (k : K) × (get_elem? es j ≡ some (k, f)) × ((i : ℕ) (e : K × V) → get_elem? (remove_entry test es) i ≡ some e → get_elem? es (up j i) ≡ some e)

pub removed : {K V : Type 0} (test : K → Bool) (es : List (K × V)) (f : V) → lookup test es ≡ Some f → Removed test es f
removed test [] f e = absurd (none-some f e)
removed {K} {V} test (y ∷ ys) f e = by (removed test ys f) (test y.0) refl e
  where
    by : (lookup test ys ≡ Some f → Removed test ys f) → (t : Bool) → test y.0 ≡ t → cond t (Some y.1) (lookup test ys) ≡ Some f → Removed test (y ∷ ys) f
    by more true at e =
        let same : y.1 ≡ f = same_Some _ _ e in
        let list : remove_entry test (y ∷ ys) ≡ ys = ap (λ t. cond t ys (y ∷ remove_entry test ys)) at in
        (0, y.0, ap (λ (x : V). some (y.0, x)) same, λ i d h. ap (λ l. get_elem? l i) (sym list) ∙ h)
    by more false at e =
        let m = more e in
        let list : remove_entry test (y ∷ ys) ≡ y ∷ remove_entry test ys = ap (λ t. cond t ys (y ∷ remove_entry test ys)) at in
        (suc m.0, m.1, m.2, λ i d h. place m.0 m.3 i d (ap (λ l. get_elem? l i) (sym list) ∙ h))
      where
        place : (j : ℕ) → ((i : ℕ) (d : K × V) → get_elem? (remove_entry test ys) i ≡ some d → get_elem? ys (up j i) ≡ some d)
            → (i : ℕ) (d : K × V) → get_elem? (y ∷ remove_entry test ys) i ≡ some d → get_elem? (y ∷ ys) (up (suc j) i) ≡ some d
        place j all zero d h = h
        place j all (suc i) d h = all i d h

-- ---- How many follow a board.

abbrev pub one_if_true : Bool → ℕ
one_if_true t = cond t 1 0

abbrev pub crowd : List ℕ → List (ℕ × Seated) → ℕ
crowd q fs = count_by (λ e. same_name q e.1.board) fs

pub crowd_cons : (q : List ℕ) (x : ℕ × Seated) (xs : List (ℕ × Seated)) → crowd q (x ∷ xs) ≡ cond (same_name q x.1.board) 1 0 + crowd q xs
crowd_cons q x xs = sum_by-cons (λ e. cond (same_name q e.1.board) 1 0) x xs

pub crowd_push : (q : List ℕ) (xs : List (ℕ × Seated)) (x : ℕ × Seated) → crowd q (xs ++ x ∷ []) ≡ crowd q xs + cond (same_name q x.1.board) 1 0
crowd_push q xs x = sum_by_push (λ e. cond (same_name q e.1.board) 1 0) xs x

pub crowd_none : (q : List ℕ) (xs : List (ℕ × Seated)) → ((i : ℕ) (e : ℕ × Seated) → get_elem? xs i ≡ some e → same_name q e.1.board ≡ false) → crowd q xs ≡ 0
crowd_none q [] all = refl
crowd_none q (x ∷ xs) all =
    let c = crowd_cons q x xs in
    let none = ap one_if_true (all 0 x refl) in
    let rest = crowd_none q xs (λ i e d. all (suc i) e d) in
    omega (arith, c, none, rest)

pub crowd_removed : (q : List ℕ) (test : ℕ → Bool) (xs : List (ℕ × Seated)) (f : Seated) → lookup test xs ≡ Some f → crowd q (remove_entry test xs) + cond (same_name q f.board) 1 0 ≡ crowd q xs
crowd_removed q test [] f e = absurd (none-some f e)
crowd_removed q test (x ∷ xs) f e = by (crowd_removed q test xs f) (test x.0) e ∙ sym (crowd_cons q x xs)
  where
    by : (lookup test xs ≡ Some f → crowd q (remove_entry test xs) + cond (same_name q f.board) 1 0 ≡ crowd q xs) → (t : Bool) → cond t (Some x.1) (lookup test xs) ≡ Some f
        → crowd q (cond t xs (x ∷ remove_entry test xs)) + cond (same_name q f.board) 1 0 ≡ cond (same_name q x.1.board) 1 0 + crowd q xs
    by more true e = let same = ap (λ (g : Seated). one_if_true (same_name q g.board)) (same_Some _ _ e) in omega (arith, same)
    by more false e = let m = more e in let c = crowd_cons q x (remove_entry test xs) in omega (arith, m, c)

-- ---- Vacant slots.

pub at_replicate : (n k : ℕ) (x y : Note) → get_elem? (replicate n x) k ≡ some y → y ≡ x
at_replicate zero k x y e = absurd (some-ne-none y (sym e))
at_replicate (suc n) zero x y e = sym (some-injective x y e)
at_replicate (suc n) (suc k) x y e = at_replicate n k x y e

pub all_vacant : (n : ℕ) → total vacancy (replicate n Vacant) ≡ n
all_vacant zero = refl
all_vacant (suc n) = omega (arith, all_vacant n)

pub taken : (n : Note) → n ≢ Vacant → vacancy n ≡ 0
taken Vacant ne = absurd (ne refl)
taken (Open joined least) ne = refl
taken (Closed c) ne = refl

pub none_vacant : (l : List Note) → ((k : ℕ) → get_elem? l k ≡ some Vacant → ⊥) → total vacancy l ≡ 0
none_vacant [] none = refl
none_vacant (x ∷ xs) none = omega (arith, taken x (λ e. none 0 (ap some e)), none_vacant xs (λ k e. none (suc k) e))

-- ---- Parts that stay.

pub without_keeps : (word : ℕ) (ps : List Part) (i : ℕ) (p : Part) → get_elem? ps i ≡ some p → p.slot + 2 ≢ word → (j : ℕ) × (get_elem? (without word ps) j ≡ some p)
without_keeps word [] i p e ne = absurd (some-ne-none p (sym e))
without_keeps word (x ∷ xs) zero p e ne =
    let same : x ≡ p = some-injective x p e in
    pick (λ (l : List Part). (j : ℕ) × (get_elem? l j ≡ some p)) (nat_eq (x.slot + 2) word) (without word xs) (x ∷ without word xs)
    (λ t. absurd (ne (let y = ap (λ (z : Part). z.slot) same in let w = eqb-true (x.slot + 2) word t in omega arith))) (λ _. (0, e))
without_keeps word (x ∷ xs) (suc i) p e ne =
    let m = without_keeps word xs i p e ne in
    pick (λ (l : List Part). (j : ℕ) × (get_elem? l j ≡ some p)) (nat_eq (x.slot + 2) word) (without word xs) (x ∷ without word xs)
    (λ _. m) (λ _. (suc m.0, m.1))
