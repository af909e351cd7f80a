-- Who is here with a key, by numbers.
use Rattle.std.proofs.Common.{◌≡◌, ◌<◌, ◌+◌, ◌-◌, ℕ, nat_eq, List, [], ◌∷◌, Bool, true, false, true≢false, cond, Some, refl, sym, ap, ◌∙◌, subst, arith}
use Rattle.std.proofs.lemmas.Bool.{eqb-true}
use Rattle.std.proofs.lemmas.Option.{none-some, same_Some}
use Rattle.std.specs.Cmp.Lexicographic.{bytes_decides}
use Rattle.std.specs.Map.{lookup, remove_entry}
use Rattle.relay_hall.specs.Keys.{same_key}
use Rattle.relay_service.specs.Inner.{count_of}
use Rattle.relay_service.proofs.Connections.{same_number}

found_here : (here : List (ℕ × List ℕ)) (i : ℕ) (key q : List ℕ) → lookup (nat_eq i) here ≡ Some key → same_key q key ≡ true → 0 < count_of q here
found_here [] i key q at alike = absurd (none-some key at)
found_here (e ∷ es) i key q at alike = by (nat_eq i e.0) at (λ h. found_here es i key q h alike)
  where
    more : (b : Bool) (n : ℕ) → 0 < n → 0 < cond b (n + 1) n
    more true n h = omega arith
    more false n h = h

    by : (b : Bool) → cond b (Some e.1) (lookup (nat_eq i) es) ≡ Some key → (lookup (nat_eq i) es ≡ Some key → 0 < count_of q es)
        → 0 < cond (same_key q e.1) (count_of q es + 1) (count_of q es)
    by true h rest =
        let is : e.1 ≡ key = same_Some _ _ h in
        subst (λ (b : Bool). 0 < cond b (count_of q es + 1) (count_of q es)) (sym (ap (same_key q) is ∙ alike)) (omega arith)
    by false h rest = more (same_key q e.1) (count_of q es) (rest h)

same_itself : (key : List ℕ) → same_key key key ≡ true
same_itself key = (bytes_decides key key).1 refl

pub is_here : (here : List (ℕ × List ℕ)) (i : ℕ) (key : List ℕ) → lookup (nat_eq i) here ≡ Some key → 0 < count_of key here
is_here here i key at = found_here here i key key at (same_itself key)

pub one_less : (here : List (ℕ × List ℕ)) (i : ℕ) (key q : List ℕ) → lookup (nat_eq i) here ≡ Some key
    → cond (same_key q key) (count_of q here - 1) (count_of q here) ≡ count_of q (remove_entry (nat_eq i) here)
one_less [] i key q at = absurd (none-some key at)
one_less (e ∷ es) i key q at = by (nat_eq i e.0) at (λ h. one_less es i key q h)
  where
    off : (b : Bool) (n : ℕ) → cond b (cond b (n + 1) n - 1) (cond b (n + 1) n) ≡ n
    off true n = omega arith
    off false n = refl

    on : (a b : Bool) (n m : ℕ) → cond a (n - 1) n ≡ m → (a ≡ true → 0 < n) → cond a (cond b (n + 1) n - 1) (cond b (n + 1) n) ≡ cond b (m + 1) m
    on true true n m h some = let k : 0 < n = some refl in omega (arith, h, k)
    on true false n m h some = h
    on false true n m h some = ap (λ (k : ℕ). k + 1) h
    on false false n m h some = h

    by : (b : Bool) → cond b (Some e.1) (lookup (nat_eq i) es) ≡ Some key
        → (lookup (nat_eq i) es ≡ Some key → cond (same_key q key) (count_of q es - 1) (count_of q es) ≡ count_of q (remove_entry (nat_eq i) es))
        → cond (same_key q key) (cond (same_key q e.1) (count_of q es + 1) (count_of q es) - 1) (cond (same_key q e.1) (count_of q es + 1) (count_of q es))
        ≡ count_of q (cond b es (e ∷ remove_entry (nat_eq i) es))
    by true h rest =
        let is : e.1 ≡ key = same_Some _ _ h in
        subst (λ (k : List ℕ). cond (same_key q k) (cond (same_key q e.1) (count_of q es + 1) (count_of q es) - 1) (cond (same_key q e.1) (count_of q es + 1) (count_of q es)) ≡ count_of q es)
        is (off (same_key q e.1) (count_of q es))
    by false h rest = on (same_key q key) (same_key q e.1) (count_of q es) (count_of q (remove_entry (nat_eq i) es)) (rest h) (λ alike. found_here es i key q h alike)

pub others_here : (here : List (ℕ × List ℕ)) (i j : ℕ) → nat_eq i j ≡ false → lookup (nat_eq j) (remove_entry (nat_eq i) here) ≡ lookup (nat_eq j) here
others_here [] i j other = refl
others_here (e ∷ es) i j other = by (nat_eq i e.0) (nat_eq j e.0) refl refl (others_here es i j other)
  where
    by : (a b : Bool) → nat_eq i e.0 ≡ a → nat_eq j e.0 ≡ b → lookup (nat_eq j) (remove_entry (nat_eq i) es) ≡ lookup (nat_eq j) es
        → lookup (nat_eq j) (cond a es (e ∷ remove_entry (nat_eq i) es)) ≡ cond b (Some e.1) (lookup (nat_eq j) es)
    by true true x y rest =
        absurd (true≢false (sym (subst (λ (n : ℕ). nat_eq i n ≡ true) (eqb-true i e.0 x ∙ sym (eqb-true j e.0 y)) (same_number i)) ∙ other))
    by true false x y rest = refl
    by false b x y rest = ap (λ (t : Bool). cond t (Some e.1) (lookup (nat_eq j) (remove_entry (nat_eq i) es))) y ∙ ap (cond b (Some e.1)) rest
