-- Lists of entries, none of whose keys change.
use Rattle.std.proofs.Common.{◌≡◌, ℕ, ◌+◌, ◌<◌, ◌≤◌, suc, zero, Bool, true, false, ◌||◌, cond, List, [], ◌∷◌, ◌++◌, length, take, drop, map, slice_get, Option, Some, None, option_map, ap, refl, sym, ◌∙◌, arith}
use Rattle.std.specs.Map.{lookup, keys_of, remove_entry, set_value}
use Rattle.std.specs.List.{AllByRecursion, IsDistinct, list_any}
use Rattle.std.proofs.lemmas.Map.Keys.{IsDistinct-head, IsDistinct-tail, IsDistinct-cons}
use Rattle.indexmap.specs.Layout.{set_value_at}

module _ {K V : Type 0} (f : V → V) where
  abbrev pub done_up_to : ℕ → List (K × V) → List (K × V)
  done_up_to i xs = map (λ e. (e.0, f e.1)) (take i xs) ++ drop i xs

  -- one more entry is changed
  pub done_one_more : (xs : List (K × V)) (i : ℕ) (k : K) (v : V) → slice_get (done_up_to i xs) i ≡ Some (k, v)
      → set_value_at (done_up_to i xs) i (f v) ≡ done_up_to (suc i) xs
  done_one_more [] zero k v h = refl
  done_one_more [] (suc i) k v h = refl
  done_one_more (x ∷ xs) zero k v h = let e : x ≡ (k, v) = cc in ap (λ (p : K × V). (x.0, f p.1) ∷ xs) (sym e)
  done_one_more (x ∷ xs) (suc i) k v h = ap (λ t. (x.0, f x.1) ∷ t) (done_one_more xs i k v h)

  -- one that stays as it is need not be written
  pub done_as_it_is : (xs : List (K × V)) (i : ℕ) → ((x : K × V) → slice_get xs i ≡ Some x → f x.1 ≡ x.1) → done_up_to i xs ≡ done_up_to (suc i) xs
  done_as_it_is [] zero same = refl
  done_as_it_is [] (suc i) same = refl
  done_as_it_is (x ∷ xs) zero same = ap (λ v. (x.0, v) ∷ xs) (sym (same x refl))
  done_as_it_is (x ∷ xs) (suc i) same = ap (λ t. (x.0, f x.1) ∷ t) (done_as_it_is xs i same)

  -- nor those of a stretch that all stay as they are
  pub done_as_they_are : (xs : List (K × V)) (i n : ℕ) → ((k : ℕ) (x : K × V) → i ≤ k → k < i + n → slice_get xs k ≡ Some x → f x.1 ≡ x.1)
      → done_up_to i xs ≡ done_up_to (i + n) xs
  done_as_they_are xs i zero same = ap (λ k. done_up_to k xs) (omega arith)
  done_as_they_are xs i (suc n) same =
      let next : suc i + n ≡ i + suc n = omega arith in
      done_as_it_is xs i (λ x at. same i x (omega arith) (omega arith) at)
      ∙ done_as_they_are xs (suc i) n (λ k x from to at. same k x (omega (arith, from)) (omega (arith, to)) at)
      ∙ ap (λ k. done_up_to k xs) next

  -- all are changed
  pub done_all : (xs : List (K × V)) (i : ℕ) → length xs ≤ i → done_up_to i xs ≡ map (λ e. (e.0, f e.1)) xs
  done_all [] zero all = refl
  done_all [] (suc i) all = refl
  done_all (x ∷ xs) zero all = absurd (omega arith)
  done_all (x ∷ xs) (suc i) all = ap (λ t. (x.0, f x.1) ∷ t) (done_all xs i (omega arith))

abbrev pub first_some : {X : Type 0} → Option X → Option X → Option X
first_some (Some x) y = Some x
first_some None y = y

-- the entries with f of each value
abbrev pub shown : {K V W : Type 0} (f : V → W) → List (K × V) → List (K × W)
shown f xs = map (λ e. (e.0, f e.1)) xs

pub shown-push : {K V W : Type 0} (f : V → W) (xs : List (K × V)) (k : K) (v : V)
    → shown f (xs ++ (k, v) ∷ []) ≡ shown f xs ++ (k, f v) ∷ []
shown-push f [] k v = refl
shown-push f (x ∷ xs) k v = ap (λ t. (x.0, f x.1) ∷ t) (shown-push f xs k v)

pub first_none : {X : Type 0} (o : Option X) → first_some o None ≡ o
first_none None = refl
first_none (Some x) = refl

pub keys-push : {K V : Type 0} (xs : List (K × V)) (k : K) (v : V) → keys_of (xs ++ (k, v) ∷ []) ≡ keys_of xs ++ k ∷ []
keys-push [] k v = refl
keys-push (x ∷ xs) k v = ap (λ t. x.0 ∷ t) (keys-push xs k v)

-- a key that a look-up misses is not among the keys
pub absent : {K V : Type 0} (test : K → Bool) (xs : List (K × V)) → lookup test xs ≡ None → list_any test (keys_of xs) ≡ false
absent test [] h = refl
absent test (x ∷ xs) h = by (test x.0) h (absent test xs)
  where
    by : (b : Bool) → cond b (Some x.1) (lookup test xs) ≡ None → (lookup test xs ≡ None → list_any test (keys_of xs) ≡ false)
        → (b || list_any test (keys_of xs)) ≡ false
    by true g rest = cc
    by false g rest = rest g

module _ {K V : Type 0} (eq : K → K → Bool) (test : K → Bool) where
  -- what holds for each key holds for those that are left
  all-remove : (P : K → Type 0) (xs : List (K × V)) → AllByRecursion P (keys_of xs)
      → AllByRecursion P (keys_of (remove_entry test xs))
  all-remove P [] h = h
  all-remove P (x ∷ xs) (p, h) = by (test x.0) (all-remove P xs h)
    where
      by : (b : Bool) → AllByRecursion P (keys_of (remove_entry test xs))
          → AllByRecursion P (keys_of (cond b xs (x ∷ remove_entry test xs)))
      by true rest = h
      by false rest = (p, rest)

  pub distinct-remove : (xs : List (K × V)) → IsDistinct eq (keys_of xs) → IsDistinct eq (keys_of (remove_entry test xs))
  distinct-remove [] h = h
  distinct-remove (x ∷ xs) h = by (test x.0) (distinct-remove xs (IsDistinct-tail eq x.0 (keys_of xs) h))
    where
      by : (b : Bool) → IsDistinct eq (keys_of (remove_entry test xs))
          → IsDistinct eq (keys_of (cond b xs (x ∷ remove_entry test xs)))
      by true rest = IsDistinct-tail eq x.0 (keys_of xs) h
      by false rest =
          IsDistinct-cons eq x.0 (keys_of (remove_entry test xs))
          (all-remove (λ y. eq x.0 y ≡ false) xs (IsDistinct-head eq x.0 (keys_of xs) h)) rest

module _ {K V : Type 0} (test : K → Bool) where
  pub lookup-push : (xs : List (K × V)) (k : K) (v : V)
      → lookup test (xs ++ (k, v) ∷ []) ≡ first_some (lookup test xs) (cond (test k) (Some v) None)
  lookup-push [] k v = refl
  lookup-push (x ∷ xs) k v =
      elim (test x.0) as (λ b. cond b (Some x.1) (lookup test (xs ++ (k, v) ∷ []))
      ≡ first_some (cond b (Some x.1) (lookup test xs))
      (cond (test k) (Some v) None)) [ true ↦ refl | false ↦ lookup-push xs k v ]

  pub lookup-map : {W : Type 0} (f : V → W) (xs : List (K × V))
      → lookup test (map (λ e. (e.0, f e.1)) xs) ≡ option_map f (lookup test xs)
  lookup-map f [] = refl
  lookup-map f (x ∷ xs) =
      elim (test x.0) as (λ b. cond b (Some (f x.1)) (lookup test (map (λ e. (e.0, f e.1)) xs))
      ≡ option_map f (cond b (Some x.1) (lookup test xs))) [ true ↦ refl | false ↦ lookup-map f xs ]

  pub remove-map : {W : Type 0} (f : V → W) (xs : List (K × V))
      → map (λ e. (e.0, f e.1)) (remove_entry test xs) ≡ remove_entry test (map (λ e. (e.0, f e.1)) xs)
  remove-map f [] = refl
  remove-map f (x ∷ xs) =
      elim (test x.0) as (λ b. map (λ e. (e.0, f e.1)) (cond b xs (x ∷ remove_entry test xs))
      ≡ cond b (map (λ e. (e.0, f e.1)) xs) ((x.0, f x.1)
      ∷ remove_entry test (map (λ e. (e.0, f e.1)) xs))) [ true ↦ refl | false ↦ ap (λ t. (x.0, f x.1) ∷ t) (remove-map f xs) ]

  -- a written value for which f gives the same
  pub set_value-map : {W : Type 0} (f : V → W) (xs : List (K × V)) (v w : V) → lookup test xs ≡ Some v → f w ≡ f v
      → shown f (set_value test xs w) ≡ shown f xs
  set_value-map f [] v w h same = refl
  set_value-map f (x ∷ xs) v w h same = by (test x.0) h (λ g. set_value-map f xs v w g same)
    where
      by : (b : Bool) → cond b (Some x.1) (lookup test xs) ≡ Some v
          → (lookup test xs ≡ Some v → shown f (set_value test xs w) ≡ shown f xs)
          → shown f (cond b ((x.0, w) ∷ xs) (x ∷ set_value test xs w)) ≡ shown f (x ∷ xs)
      by true g rest = let e : x.1 ≡ v = cc in ap (λ t. (x.0, t) ∷ shown f xs) (same ∙ ap f (sym e))
      by false g rest = ap (λ t. (x.0, f x.1) ∷ t) (rest g)

module _ {K V W X : Type 0} (f : W → X) (g : V → W) where
  pub shown-shown : (xs : List (K × V)) → shown f (shown g xs) ≡ shown (λ v. f (g v)) xs
  shown-shown [] = refl
  shown-shown (x ∷ xs) = ap (λ t. (x.0, f (g x.1)) ∷ t) (shown-shown xs)

module _ {K V W : Type 0} (f g : V → W) (same : (v : V) → f v ≡ g v) where
  pub shown-same : (xs : List (K × V)) → shown f xs ≡ shown g xs
  shown-same [] = refl
  shown-same (x ∷ xs) = ap (λ t. (x.0, f x.1) ∷ t) (shown-same xs) ∙ ap (λ t. (x.0, t) ∷ shown g xs) (same x.1)

pub none_below : {X Y : Type 0} (f : X → Y) (o : Option X) → option_map f o ≡ None → o ≡ None
none_below f None e = refl
none_below f (Some x) e = cc

pub some_below : {X Y : Type 0} (f : X → Y) (o : Option X) (y : Y) → option_map f o ≡ Some y → (x : X) × (o ≡ Some x) × (f x ≡ y)
some_below f None y e = cc
some_below f (Some x) y e = let same : f x ≡ y = cc in (x, refl, same)
