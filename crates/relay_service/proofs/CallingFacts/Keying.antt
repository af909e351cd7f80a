-- The fields of a query, one after another.
use Rattle.std.proofs.Common.{◌≡◌, ◌≤◌, ◌<◌, ◌==◌, ℕ, suc, ◌+◌, Bool, true, false, cond, not, List, [], ◌∷◌, length, take, drop, Option, None, Some, refl, sym, ◌∙◌, ap, inl, inr, arith}
use Rattle.std.specs.Prelude.{◌⊎◌}
use Rattle.std.specs.List.{prefix_len}
use Rattle.relay_service.specs.Calling.Keys.{behind_first, fields_of, first_key, first_of, in_front, key_in, onto_first}

-- the bytes in front of the first `&`
abbrev front : List ℕ → List ℕ
front bytes = in_front 38 bytes

split_here : (b : ℕ) (bs : List ℕ) → (b == 38) ≡ true → (front (b ∷ bs) ≡ []) × (fields_of (b ∷ bs) ≡ [] ∷ fields_of bs)
unfolding fields_of
split_here b bs is = (ap (λ (t : Bool). take (cond (not t) (1 + prefix_len (λ x. not (x == 38)) bs) 0) (b ∷ bs)) is, ap (λ (t : Bool). cond t ([] ∷ fields_of bs) (onto_first b (fields_of bs))) is)

split_later : (b : ℕ) (bs : List ℕ) → (b == 38) ≡ false → (front (b ∷ bs) ≡ b ∷ front bs) × (fields_of (b ∷ bs) ≡ onto_first b (fields_of bs))
unfolding fields_of
split_later b bs is =
    let one : 1 + prefix_len (λ x. not (x == 38)) bs ≡ suc (prefix_len (λ x. not (x == 38)) bs) = omega arith in
    (ap (λ (t : Bool). take (cond (not t) (1 + prefix_len (λ x. not (x == 38)) bs) 0) (b ∷ bs)) is ∙ ap (λ (n : ℕ). take n (b ∷ bs)) one, ap (λ (t : Bool). cond t ([] ∷ fields_of bs) (onto_first b (fields_of bs))) is)

-- there is one field more if there is a `&`
abbrev Splits : List ℕ → Type 0
Splits bytes =
    ((length bytes ≤ length (front bytes)) × (fields_of bytes ≡ front bytes ∷ []))
    ⊎ ((length (front bytes) < length bytes) × (fields_of bytes ≡ front bytes ∷ fields_of (behind_first 38 bytes)))

splits_on : (b : ℕ) (bs : List ℕ) → Splits bs → (t : Bool) → (b == 38) ≡ t → Splits (b ∷ bs)
splits_on b bs rest true is =
    let s = split_here b bs is in
    let short : length (front (b ∷ bs)) ≡ 0 = ap length s.0 in
    inr (omega (arith, short), s.1 ∙ ap (λ (f : List ℕ). f ∷ fields_of (drop (suc (length f)) (b ∷ bs))) (sym s.0))
splits_on b bs (inl (last, fields)) false is =
    let s = split_later b bs is in
    let long : length (front (b ∷ bs)) ≡ suc (length (front bs)) = ap length s.0 in
    inl (omega (arith, long, last), s.1 ∙ ap (onto_first b) fields ∙ ap (λ (f : List ℕ). f ∷ []) (sym s.0))
splits_on b bs (inr (more, fields)) false is =
    let s = split_later b bs is in
    let long : length (front (b ∷ bs)) ≡ suc (length (front bs)) = ap length s.0 in
    inr (omega (arith, long, more), s.1 ∙ ap (onto_first b) fields ∙ ap (λ (f : List ℕ). f ∷ fields_of (drop (suc (length f)) (b ∷ bs))) (sym s.0))

splits : (bytes : List ℕ) → Splits bytes
unfolding fields_of
splits [] = inl (omega arith, refl)
splits (b ∷ bs) = splits_on b bs (splits bs) (b == 38) refl

module _ (bytes : List ℕ) where
  pub first_found : (key : List ℕ) → key_in (front bytes) ≡ Some key → first_key (fields_of bytes) ≡ Some key
  first_found key is = by (splits bytes)
    where
      by : Splits bytes → first_key (fields_of bytes) ≡ Some key
      by (inl (last, fields)) = ap first_key fields ∙ ap (λ (k : Option (List ℕ)). first_of k None) is
      by (inr (more, fields)) = ap first_key fields ∙ ap (λ (k : Option (List ℕ)). first_of k (first_key (fields_of (behind_first 38 bytes)))) is

  pub none_found : key_in (front bytes) ≡ None → length bytes ≤ length (front bytes) → first_key (fields_of bytes) ≡ None
  none_found is all = by (splits bytes)
    where
      by : Splits bytes → first_key (fields_of bytes) ≡ None
      by (inl (last, fields)) = ap first_key fields ∙ ap (λ (k : Option (List ℕ)). first_of k None) is
      by (inr (more, fields)) = absurd (omega (arith, more, all))

  pub found_later : key_in (front bytes) ≡ None → length (front bytes) < length bytes → first_key (fields_of bytes) ≡ first_key (fields_of (behind_first 38 bytes))
  found_later is more = by (splits bytes)
    where
      by : Splits bytes → first_key (fields_of bytes) ≡ first_key (fields_of (behind_first 38 bytes))
      by (inl (last, fields)) = absurd (omega (arith, more, last))
      by (inr (some, fields)) = ap first_key fields ∙ ap (λ (k : Option (List ℕ)). first_of k (first_key (fields_of (behind_first 38 bytes)))) is
