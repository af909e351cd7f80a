-- Which boards belong to a key: byte by byte, and in a loop.
use Rattle.std.proofs.Common.{◌≡◌, ◌<◌, ◌+◌, ◌&&◌, ◌||◌, ℕ, zero, suc, Bool, true, false, List, [], ◌∷◌, ◌++◌, Some, length, map, take, replicate, drop, get_or, refl, sym, ap, ◌∙◌, nat_eq, arith}
use Rattle.std.specs.Cmp.Lexicographic.{pointwise}
use Rattle.std.specs.List.{list_any, slice_get}
use Rattle.std.proofs.Math.Seq.{take-length}
use Rattle.std.proofs.lemmas.Option.{none-some, same_Some}
use Rattle.std.proofs.lemmas.List.{drop-replicate, length-take-le, take_more}
use native.Mathlib.Numerals.{unary_clauses}
use Rattle.relay_hall.specs.Keys.{filled}

and-true : (b : Bool) → (b && true) ≡ b
and-true true = refl
and-true false = refl

and-assoc : (a b c : Bool) → (a && (b && c)) ≡ ((a && b) && c)
and-assoc true b c = refl
and-assoc false b c = refl

or-false : (b : Bool) → (b || false) ≡ b
or-false true = refl
or-false false = refl

or-assoc : (a b c : Bool) → (a || (b || c)) ≡ ((a || b) || c)
or-assoc true b c = refl
or-assoc false b c = refl

-- one more byte
pub same_more : (xs ys : List ℕ) (x y : ℕ) → length xs ≡ length ys → pointwise nat_eq (xs ++ x ∷ []) (ys ++ y ∷ []) ≡ (pointwise nat_eq xs ys && nat_eq x y)
same_more [] [] x y long = and-true (nat_eq x y)
same_more [] (b ∷ ys) x y long = cc
same_more (a ∷ xs) [] x y long = cc
same_more (a ∷ xs) (b ∷ ys) x y long =
    let shorter : length xs ≡ length ys = omega (arith, long) in
    ap (λ t. nat_eq a b && t) (same_more xs ys x y shorter) ∙ and-assoc (nat_eq a b) (pointwise nat_eq xs ys) (nat_eq x y)

-- a text copied over the front of 64 zeros is padded
pub zeros_behind : (text : List ℕ) → text ++ drop (length text) (replicate {A = ℕ} 64 0) ≡ filled text
zeros_behind text = ap (λ zeros. text ++ zeros) (drop-replicate (length text) 64 0)

-- when a loop goes on by one byte
pub same_next : (a b : List ℕ) (i : ℕ) → i < length a → i < length b → pointwise nat_eq (take (i + 1) a) (take (i + 1) b) ≡ (pointwise nat_eq (take i a) (take i b) && nat_eq (get_or a i 0) (get_or b i 0))
same_next a b i in_a in_b =
    rw (take_more a i 0 in_a, take_more b i 0 in_b)
    (same_more (take i a) (take i b) (get_or a i 0) (get_or b i 0) (length-take-le i a (omega (arith, in_a)) ∙ sym (length-take-le i b (omega (arith, in_b)))))

-- all 64 bytes of a list that has no more
pub all_of : (a : List ℕ) → length a ≡ 64 → take 64 a ≡ a
all_of a long = ap (λ n. take n a) (sym long) ∙ take-length a

-- one more item is looked at
pub any_more : {A : Type 0} (p : A → Bool) (xs : List A) (at : ℕ) (x : A) → slice_get xs at ≡ Some x
    → list_any p (take (at + 1) xs) ≡ (list_any p (take at xs) || p x)
any_more p [] at x found = absurd (none-some x found)
any_more p (e ∷ es) zero x found = or-false (p e) ∙ ap p (same_Some _ _ found)
any_more p (e ∷ es) (suc at) x found = simp unary_clauses
    (ap (λ t. p e || t) (simp unary_clauses at (any_more p es at x found)) ∙ or-assoc (p e) (list_any p (take at es)) (p x))

-- a test of what is shown
pub any_shown : {A B : Type 0} (p : B → Bool) (g : A → B) (xs : List (List ℕ × A))
    → list_any (λ (e : List ℕ × B). p e.1) (map (λ e. (e.0, g e.1)) xs) ≡ list_any (λ (e : List ℕ × A). p (g e.1)) xs
any_shown p g [] = refl
any_shown p g (x ∷ xs) = ap (λ t. p (g x.1) || t) (any_shown p g xs)
