-- Stretches of a log, and moves with their places.
use Rattle.std.proofs.Common.{◌≡◌, ℕ, suc, zero, ◌+◌, ◌≤◌, Bool, true, false, cond, List, [], ◌∷◌, ◌++◌, length, length-take, length-drop, take, drop, slice_get, Some, None, refl, sym, ap, ◌∙◌, arith, add-one}
use Rattle.std.proofs.lemmas.List.{take-append-le, drop-append-le}
use Rattle.std.proofs.Math.ListN.{drop_of_length-le}
use Rattle.c960_board.specs.Moves.{Triple}
use Rattle.relay_core.specs.Following.{stretch}
use Rattle.relay_core.specs.Stretch.{placed}

-- a stretch that ends before a new move
pub before_new : (joins : Bool) (j n : ℕ) (l : List Triple) (m : Triple) → n ≤ length l
    → stretch j n l ≡ stretch j n (cond joins (l ++ m ∷ []) l)
before_new false j n l m h = refl
before_new true j n l m h = ap (drop j) (sym (take-append-le n l (m ∷ []) h))

pub empty_here : (n : ℕ) (l : List Triple) → stretch n (n + 0) l ≡ []
empty_here n l = drop_of_length-le (take (n + 0) l) (simp length-take (omega arith))

pub stretch_length : (j n : ℕ) (l : List Triple) → j ≤ n → n ≤ length l → j + length (stretch j n l) ≡ n
stretch_length j n l low high = simp (length-drop, length-take) (omega arith)

-- one more of the first n
take_next : (n k : ℕ) (l rest : List Triple) (m : Triple) → drop n (take k l) ≡ m ∷ rest → take (suc n) l ≡ take n l ++ m ∷ []
take_next zero zero l rest m h = cc
take_next (suc n) zero l rest m h = cc
take_next zero (suc k) [] rest m h = cc
take_next zero (suc k) (x ∷ l) rest m h = let e : x ≡ m = cc in ap (λ y. y ∷ []) e
take_next (suc n) (suc k) [] rest m h = cc
take_next (suc n) (suc k) (x ∷ l) rest m h = ap (λ t. x ∷ t) (take_next n k l rest m h)

-- a stretch grows by the first move after it
pub grown : (j n k : ℕ) (l rest : List Triple) (m : Triple) → j ≤ n → n ≤ length l → stretch n k l ≡ m ∷ rest
    → stretch j (n + 1) l ≡ stretch j n l ++ m ∷ []
grown j n k l rest m low high h =
    rw add-one (ap (drop j) (take_next n k l rest m h) ∙ drop-append-le j (take n l) (m ∷ []) (simp length-take (omega arith)))

-- a stretch and the move at the place after it
pub stretch_more : (j n : ℕ) (l : List Triple) (m : Triple) → j ≤ n → slice_get l n ≡ Some m
    → stretch j (n + 1) l ≡ stretch j n l ++ m ∷ []
stretch_more j n l m low h =
    rw add-one (ap (drop j) (take_at n l m h)
    ∙ drop-append-le j (take n l) (m ∷ []) (simp length-take (omega (arith, in_list n l m h))))
  where
    take_at : (n : ℕ) (l : List Triple) (m : Triple) → slice_get l n ≡ Some m → take (suc n) l ≡ take n l ++ m ∷ []
    take_at n [] m h = cc
    take_at zero (x ∷ l) m h = let e : x ≡ m = cc in ap (λ y. y ∷ []) e
    take_at (suc n) (x ∷ l) m h = ap (λ t. x ∷ t) (take_at n l m h)

    in_list : (n : ℕ) (l : List Triple) (m : Triple) → slice_get l n ≡ Some m → suc n ≤ length l
    in_list n [] m h = cc
    in_list zero (x ∷ l) m h = omega arith
    in_list (suc n) (x ∷ l) m h = let w = in_list n l m h in omega (arith, w)

-- a place of the list has a move
pub move_there : (n : ℕ) (l : List Triple) → suc n ≤ length l → slice_get l n ≡ None → ⊥
move_there n [] low h = absurd (omega arith)
move_there zero (x ∷ l) low h = cc
move_there (suc n) (x ∷ l) low h = move_there n l (omega arith) h

-- two stretches, one after the other
pub joined_stretches : (j n k : ℕ) (l : List Triple) → j ≤ n → n ≤ k → k ≤ length l
    → stretch j n l ++ stretch n k l ≡ stretch j k l
joined_stretches zero zero k l low high short = refl
joined_stretches zero (suc n) zero l low high short = absurd (omega arith)
joined_stretches zero (suc n) (suc k) [] low high short = refl
joined_stretches zero (suc n) (suc k) (x ∷ l) low high short =
    ap (λ t. x ∷ t) (joined_stretches zero n k l (omega arith) (omega arith) (omega arith))
joined_stretches (suc j) zero k l low high short = absurd (omega arith)
joined_stretches (suc j) (suc n) zero l low high short = absurd (omega arith)
joined_stretches (suc j) (suc n) (suc k) [] low high short = refl
joined_stretches (suc j) (suc n) (suc k) (x ∷ l) low high short =
    joined_stretches j n k l (omega arith) (omega arith) (omega arith)

-- what remains after one more is dropped
pub drop_past : {X : Type 0} (n : ℕ) (xs rest : List X) (x : X) → drop n xs ≡ x ∷ rest → drop (n + 1) xs ≡ rest
drop_past {X = X} n xs rest x h = rw add-one (by n xs h)
  where
    by : (n : ℕ) (xs : List X) → drop n xs ≡ x ∷ rest → drop (suc n) xs ≡ rest
    by zero [] g = cc
    by zero (y ∷ ys) g = cc
    by (suc n) [] g = cc
    by (suc n) (y ∷ ys) g = by n ys g

pub placed-append : (place : ℕ) (xs ys : List Triple) → placed place (xs ++ ys) ≡ placed place xs ++ placed (place + length xs) ys
placed-append place [] ys = ap (λ n. placed n ys) (zero_more place)
  where
    zero_more : (n : ℕ) → n ≡ n + 0
    zero_more n = omega arith
placed-append place (x ∷ xs) ys =
    ap (λ t. (place, x) ∷ t) (placed-append (place + 1) xs ys
    ∙ ap (λ n. placed (place + 1) xs ++ placed n ys) (one_more place (length xs)))
  where
    one_more : (n k : ℕ) → n + 1 + k ≡ n + suc k
    one_more n k = omega arith
