-- One value of a list of entries has changed.
use Rattle.std.proofs.Common.{◌≡◌, ℕ, zero, suc, Bool, true, false, true≢false, cond, List, [], ◌∷◌, length, slice_get, Some, option_map, refl, sym, ap, ◌∙◌}
use Rattle.std.proofs.lemmas.Option.{none-some, same_Some, slice_get-map}
use Rattle.std.specs.Cmp.{IsEquivalence}
use Rattle.std.specs.Map.{lookup, set_value, values_of}
use Rattle.indexmap.specs.IndexMap.{set_value_at}
use Rattle.relay_core.specs.Name.{same_name}
use Rattle.relay_core.proofs.lemmas.Lists.{shown, some_below}
use Rattle.relay_core.proofs.lemmas.Names.{same_name_is, is_same_name}
use Rattle.relay_hall.specs.Steps.{change_value}

-- what is shown of a list in which one value was written
module _ {K V W : Type 0} (test : K → Bool) (g : V → W) (f : W → W) where
  pub changed_shown : (xs : List (K × V)) (v w : V) → lookup test xs ≡ Some v → g w ≡ f (g v) → shown g (set_value test xs w) ≡ change_value test f (shown g xs)
  changed_shown [] v w at is = absurd (none-some v at)
  changed_shown (x ∷ xs) v w at is = by (test x.0) at (λ e. changed_shown xs v w e is)
    where
      by : (b : Bool) → cond b (Some x.1) (lookup test xs) ≡ Some v
          → (lookup test xs ≡ Some v → shown g (set_value test xs w) ≡ change_value test f (shown g xs))
          → shown g (cond b ((x.0, w) ∷ xs) (x ∷ set_value test xs w)) ≡ cond b ((x.0, f (g x.1)) ∷ shown g xs) ((x.0, g x.1) ∷ change_value test f (shown g xs))
      by true e rest = let same : x.1 ≡ v = same_Some _ _ e in ap (λ (t : W). (x.0, t) ∷ shown g xs) (is ∙ ap (λ u. f (g u)) (sym same))
      by false e rest = ap (λ (t : List (K × W)). (x.0, g x.1) ∷ t) (rest e)

-- what is found in one
module _ {V : Type 0} (b : List ℕ) (f : V → V) where
  change_here : (xs : List (List ℕ × V)) → lookup (same_name b) (change_value (same_name b) f xs) ≡ option_map f (lookup (same_name b) xs)
  change_here [] = refl
  change_here (x ∷ xs) = by (same_name b x.0) refl (change_here xs)
    where
      by : (t : Bool) → same_name b x.0 ≡ t → lookup (same_name b) (change_value (same_name b) f xs) ≡ option_map f (lookup (same_name b) xs)
          → lookup (same_name b) (cond t ((x.0, f x.1) ∷ xs) (x ∷ change_value (same_name b) f xs)) ≡ option_map f (cond t (Some x.1) (lookup (same_name b) xs))
      by true at rest = ap (λ t. cond t (Some (f x.1)) (lookup (same_name b) xs)) at
      by false at rest = ap (λ t. cond t (Some x.1) (lookup (same_name b) (change_value (same_name b) f xs))) at ∙ rest

  change_elsewhere : (q : List ℕ) → same_name b q ≡ false → (xs : List (List ℕ × V)) → lookup (same_name q) (change_value (same_name b) f xs) ≡ lookup (same_name q) xs
  change_elsewhere q ne [] = refl
  change_elsewhere q ne (x ∷ xs) = by (same_name b x.0) (same_name q x.0) refl refl (change_elsewhere q ne xs)
    where
      by : (t s : Bool) → same_name b x.0 ≡ t → same_name q x.0 ≡ s → lookup (same_name q) (change_value (same_name b) f xs) ≡ lookup (same_name q) xs
          → lookup (same_name q) (cond t ((x.0, f x.1) ∷ xs) (x ∷ change_value (same_name b) f xs)) ≡ cond (same_name q x.0) (Some x.1) (lookup (same_name q) xs)
      by true true at here rest = absurd (true≢false (sym (is_same_name b q (same_name_is b x.0 at ∙ sym (same_name_is q x.0 here))) ∙ ne))
      by true false at here rest = ap (λ t. cond t (Some (f x.1)) (lookup (same_name q) xs)) here ∙ sym (ap (λ t. cond t (Some x.1) (lookup (same_name q) xs)) here)
      by false s at here rest = ap (cond (same_name q x.0) (Some x.1)) rest

  pub change_lookup : (q : List ℕ) (xs : List (List ℕ × V)) → lookup (same_name q) (change_value (same_name b) f xs) ≡ cond (same_name b q) (option_map f (lookup (same_name b) xs)) (lookup (same_name q) xs)
  change_lookup q xs = by (same_name b q) refl
    where
      by : (t : Bool) → same_name b q ≡ t → lookup (same_name q) (change_value (same_name b) f xs) ≡ cond t (option_map f (lookup (same_name b) xs)) (lookup (same_name q) xs)
      by true at = ap (λ (n : List ℕ). lookup (same_name n) (change_value (same_name b) f xs)) (sym (same_name_is b q at)) ∙ change_here xs
      by false at = change_elsewhere q at xs

module _ {K V : Type 0} where
  pub change_length : (test : K → Bool) (f : V → V) (xs : List (K × V)) → length (change_value test f xs) ≡ length xs
  change_length test f [] = refl
  change_length test f (x ∷ xs) = by (test x.0) (change_length test f xs)
    where
      by : (t : Bool) → length (change_value test f xs) ≡ length xs → length (cond t ((x.0, f x.1) ∷ xs) (x ∷ change_value test f xs)) ≡ suc (length xs)
      by true rest = refl
      by false rest = ap suc rest

  -- a value stands at an index with its key
  pub entry_at : (es : List (K × V)) (i : ℕ) (v : V) → slice_get (values_of es) i ≡ Some v → (k : K) × (slice_get es i ≡ Some (k, v))
  entry_at es i v at =
      let m = some_below (λ (e : K × V). e.1) (slice_get es i) v (sym (slice_get-map (λ (e : K × V). e.1) es i) ∙ at) in
      (m.0.0, m.1 ∙ ap (λ (u : V). Some (m.0.0, u)) m.2)

  -- writing what stands there changes nothing
  pub set_same_at : (es : List (K × V)) (i : ℕ) (k : K) (v : V) → slice_get es i ≡ Some (k, v) → set_value_at es i v ≡ es
  set_same_at [] zero k v at = refl
  set_same_at [] (suc i) k v at = refl
  set_same_at (x ∷ xs) zero k v at = let e : x ≡ (k, v) = same_Some _ _ at in ap (λ (p : K × V). (x.0, p.1) ∷ xs) (sym e)
  set_same_at (x ∷ xs) (suc i) k v at = ap (λ t. x ∷ t) (set_same_at xs i k v at)

pub same_name_laws : IsEquivalence same_name
same_name_laws = record {
  refl = λ x. is_same_name x x refl;
  symm = λ x y. symm x y (same_name x y) (same_name y x) refl refl;
  congr = λ x y z e. ap (λ (n : List ℕ). same_name n z) (same_name_is x y e);
}
  where
    symm : (x y : List ℕ) (t s : Bool) → same_name x y ≡ t → same_name y x ≡ s → same_name x y ≡ same_name y x
    symm x y true s e d = e ∙ sym (is_same_name y x (sym (same_name_is x y e)))
    symm x y false true e d = is_same_name x y (sym (same_name_is y x d)) ∙ sym d
    symm x y false false e d = e ∙ sym d
