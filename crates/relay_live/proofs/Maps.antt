-- Look-ups after one value has changed, and by index.
use Rattle.std.proofs.Common.{◌≡◌, ◌≢◌, ◌⊎◌, ℕ, zero, suc, ◌+◌, nat_eq, nat_lt, eqb-true, lt-ltb, ne_eqb, Bool, true, false, true≢false, List, [], ◌∷◌, ◌++◌, length, length-append, position, slice_get, cond, not, None, Some, option_map, sym, refl, ap, ◌∙◌, arith, inl, inr, ⊎_elim}
use Rattle.std.proofs.lemmas.List.Folds.{position_or_len_push}
use Rattle.std.proofs.lemmas.List.Quantifiers.{position-Some}
use Rattle.std.proofs.lemmas.Option.{get_or_from_slice_get, same_Some, slice_get-map, none-some}
use Rattle.std.specs.List.{position_or_len}
use Rattle.std.specs.Map.{keys_of, lookup, set_value, values_of}
use Rattle.indexmap.specs.IndexMap.{set_value_at}
use Rattle.indexmap.proofs.MapLemmas.{Found-position}
use Rattle.relay_core.proofs.lemmas.Lists.{keys-push}
use mathlib.Core.Option.{some, some-injective}
use lib.ListN.{get_elem?}

module _ {K V : Type 0} (eq : K → K → Bool) (is : (a b : K) → eq a b ≡ true → a ≡ b) (back : (a b : K) → a ≡ b → eq a b ≡ true) where
  pub seek_same : (b : K) (es : List (K × V)) (x c : V) → lookup (eq b) es ≡ Some x → lookup (eq b) (set_value (eq b) es c) ≡ Some c
  seek_same b [] x c e = absurd (none-some x e)
  seek_same b (y ∷ ys) x c e = by (seek_same b ys x c) (eq b y.0) refl e
    where
      by : (lookup (eq b) ys ≡ Some x → lookup (eq b) (set_value (eq b) ys c) ≡ Some c) → (t : Bool) → eq b y.0 ≡ t → cond t (Some y.1) (lookup (eq b) ys) ≡ Some x → lookup (eq b) (cond t ((y.0, c) ∷ ys) (y ∷ set_value (eq b) ys c)) ≡ Some c
      by more true i e = ap (λ t. cond t (Some c) (lookup (eq b) ys)) i
      by more false i e = ap (λ t. cond t (Some y.1) (lookup (eq b) (set_value (eq b) ys c))) i ∙ more e

  pub seek_other : (b q : K) (es : List (K × V)) (c : V) → eq b q ≡ false → lookup (eq q) (set_value (eq b) es c) ≡ lookup (eq q) es
  seek_other b q [] c ne = refl
  seek_other b q (y ∷ ys) c ne = by (seek_other b q ys c ne) (eq b y.0) (eq q y.0) refl refl
    where
      by : lookup (eq q) (set_value (eq b) ys c) ≡ lookup (eq q) ys → (t s : Bool) → eq b y.0 ≡ t → eq q y.0 ≡ s → lookup (eq q) (cond t ((y.0, c) ∷ ys) (y ∷ set_value (eq b) ys c)) ≡ cond (eq q y.0) (Some y.1) (lookup (eq q) ys)
      by more true true i at = absurd (true≢false (sym (back b q (is b y.0 i ∙ sym (is q y.0 at))) ∙ ne))
      by more true false i at = ap (λ t. cond t (Some c) (lookup (eq q) ys)) at ∙ sym (ap (λ t. cond t (Some y.1) (lookup (eq q) ys)) at)
      by more false s i at = ap (cond (eq q y.0) (Some y.1)) more

-- ---- What stands at an index.

-- the value that a look-up finds stands at the index of its key, and a write there is a write under that key
module _ {K V : Type 0} (test : K → Bool) (es : List (K × V)) (i : ℕ) (at : position test (keys_of es) ≡ Some i) where
  pub found_at : lookup test es ≡ slice_get (values_of es) i
  found_at = (Found-position test es i at).value

  pub written_at : (w : V) → set_value_at es i w ≡ set_value test es w
  written_at w = ap (λ (n : ℕ). set_value_at es n w) (sym (Found-position test es i at).or_len) ∙ from es
    where
      from : (l : List (K × V)) → set_value_at l (position_or_len test (keys_of l)) w ≡ set_value test l w
      from [] = refl
      from (y ∷ ys) = by (test y.0) (from ys)
        where
          by : (t : Bool) → set_value_at ys (position_or_len test (keys_of ys)) w ≡ set_value test ys w
              → set_value_at (y ∷ ys) (cond (not t) (1 + position_or_len test (keys_of ys)) 0) w ≡ cond t ((y.0, w) ∷ ys) (y ∷ set_value test ys w)
          by true rest = refl
          by false rest =
              let one : 1 + position_or_len test (keys_of ys) ≡ suc (position_or_len test (keys_of ys)) = omega arith in
              ap (λ (n : ℕ). set_value_at (y ∷ ys) n w) one ∙ ap (λ (l : List (K × V)). y ∷ l) rest

-- the key that stands where a number was found is that number
pub key_at : {V : Type 0} (n : ℕ) (es : List (ℕ × V)) (i k : ℕ) (v : V) → position (nat_eq n) (keys_of es) ≡ Some i → slice_get es i ≡ Some (k, v) → slice_get es i ≡ Some (n, v)
key_at n es i k v at there =
    let key : slice_get (keys_of es) i ≡ Some k = slice_get-map (λ e. e.0) es i ∙ ap (option_map (λ e. e.0)) there in
    let same : n ≡ k = eqb-true n k (ap (nat_eq n) (sym (get_or_from_slice_get (keys_of es) i k k key)) ∙ (position-Some (nat_eq n) (keys_of es) i k at).1) in
    there ∙ ap (λ (m : ℕ). Some (m, v)) (sym same)

-- a new entry comes last, so the index of each key stays
pub index_pushed : {K V : Type 0} (test : K → Bool) (es : List (K × V)) (k : K) (v : V) (i : ℕ) → position test (keys_of es) ≡ Some i → position test (keys_of (es ++ (k, v) ∷ [])) ≡ Some i
index_pushed test es k v i at =
    let found = position-Some test (keys_of es) i k at in
    let first = (Found-position test es i at).or_len in
    let within = found.0 in
    let long = length-append (keys_of es) (k ∷ []) in
    let same : position_or_len test (keys_of es ++ k ∷ []) ≡ i = position_or_len_push test (keys_of es) k
    ∙ ap (λ (t : Bool). cond t (length (keys_of es) + cond (test k) 0 1) (position_or_len test (keys_of es))) (ne_eqb (position_or_len test (keys_of es)) (length (keys_of es)) (λ z. omega (arith, z, first, within)))
    ∙ first in
    let low : nat_lt i (length (keys_of es ++ k ∷ [])) ≡ true = lt-ltb i (length (keys_of es ++ k ∷ [])) (omega (arith, within, long)) in
    ap (position test) (keys-push es k v)
    ∙ ap (λ (n : ℕ). cond (nat_lt n (length (keys_of es ++ k ∷ []))) (Some n) None) same ∙ ap (λ (t : Bool). cond t (Some i) None) low

-- where the value that is written is
abbrev pub Written : {K V : Type 0} → (K → Bool) → List (K × V) → V → V → Type 0
Written {K} {V} test es f w = (j : ℕ) × (k : K) × (get_elem? es j ≡ some (k, f)) × ((i : ℕ) (e : K × V) → get_elem? (set_value test es w) i ≡ some e → ((i ≡ j) × (e ≡ (k, w))) ⊎ ((i ≢ j) × (get_elem? es i ≡ some e)))

pub written : {K V : Type 0} (test : K → Bool) (es : List (K × V)) (f w : V) → lookup test es ≡ Some f → Written test es f w
written test [] f w e = absurd (none-some f e)
written {K} {V} test (y ∷ ys) f w e = by (written test ys f w) (test y.0) refl e
  where
    zero_suc : (n : ℕ) → suc n ≢ zero
    zero_suc n h = cc

    down : (i j : ℕ) → suc i ≡ suc j → i ≡ j
    down i j h = cc

    by : (lookup test ys ≡ Some f → Written test ys f w) → (t : Bool) → test y.0 ≡ t → cond t (Some y.1) (lookup test ys) ≡ Some f → Written test (y ∷ ys) f w
    by more true at e =
        let same : y.1 ≡ f = same_Some _ _ e in
        let list : set_value test (y ∷ ys) w ≡ (y.0, w) ∷ ys = ap (λ t. cond t ((y.0, w) ∷ ys) (y ∷ set_value test ys w)) at in
        (0, y.0, ap (λ (x : V). some (y.0, x)) same, λ i d h. place i d (ap (λ l. get_elem? l i) (sym list) ∙ h))
      where
        place : (i : ℕ) (d : K × V) → get_elem? ((y.0, w) ∷ ys) i ≡ some d → ((i ≡ 0) × (d ≡ (y.0, w))) ⊎ ((i ≢ 0) × (get_elem? (y ∷ ys) i ≡ some d))
        place zero d h = inl (refl, sym (some-injective _ _ h))
        place (suc i) d h = inr (zero_suc i, h)
    by more false at e =
        let m = more e in
        let list : set_value test (y ∷ ys) w ≡ y ∷ set_value test ys w = ap (λ t. cond t ((y.0, w) ∷ ys) (y ∷ set_value test ys w)) at in
        (suc m.0, m.1, m.2, λ i d h. place m.0 m.1 m.3 i d (ap (λ l. get_elem? l i) (sym list) ∙ h))
      where
        place : (j : ℕ) (k : K) → ((i : ℕ) (e : K × V) → get_elem? (set_value test ys w) i ≡ some e → ((i ≡ j) × (e ≡ (k, w))) ⊎ ((i ≢ j) × (get_elem? ys i ≡ some e)))
            → (i : ℕ) (d : K × V) → get_elem? (y ∷ set_value test ys w) i ≡ some d → ((i ≡ suc j) × (d ≡ (k, w))) ⊎ ((i ≢ suc j) × (get_elem? (y ∷ ys) i ≡ some d))
        place j k all zero d h = inr ((λ z. zero_suc j (sym z)), h)
        place j k all (suc i) d h = ⊎_elim (λ (x : (i ≡ j) × (d ≡ (k, w))). inl (ap suc x.0, x.1)) (λ (x : (i ≢ j) × (get_elem? ys i ≡ some d)). inr ((λ z. x.0 (down i j z)), x.1)) (all i d h)
