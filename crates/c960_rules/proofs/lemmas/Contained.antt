-- What lists contain: ranges, filters, maps and stretches.
use Rattle.std.proofs.Common.{◌≡◌, ℕ, ◌<◌, List, [], ◌∷◌, map, cond, Bool, true, false, refl, ap, sym, ◌∙◌, subst, zero-add, ◌⊎◌, inl, inr, arith}
use Rattle.std.specs.List.{Contains, filter, flat_map, range_with_len, list_all}
use Rattle.std.proofs.lemmas.Bool.{and_parts}
use Rattle.std.proofs.lemmas.List.Elements.{Contains-append_left, Contains-append_right, Contains-append_cases, Contains-push, Contains-push_cases}
use Rattle.std.proofs.lemmas.List.FromFn.{length-range_with_len, get_or-range_with_len}

module _ {X : Type 0} where
  -- the empty list contains nothing
  pub in_none : (x : X) → Contains [] x → ⊥
  in_none x h = omega (arith, h.1)

  -- the first element
  pub in_first : (x : X) (xs : List X) → Contains (x ∷ xs) x
  in_first x xs = Contains-append_left (x ∷ []) xs x (Contains-push [] x)

  -- also by an equation
  pub is_first : (y x : X) (xs : List X) → y ≡ x → Contains (y ∷ xs) x
  is_first y x xs e = subst (λ (z : X). Contains (y ∷ xs) z) e (in_first y xs)

  -- a later element
  pub in_rest : (y : X) (xs : List X) (x : X) → Contains xs x → Contains (y ∷ xs) x
  in_rest y xs x h = Contains-append_right (y ∷ []) xs x h

  -- the one or the other
  pub in_cases : (y : X) (xs : List X) (x : X) → Contains (y ∷ xs) x → (y ≡ x) ⊎ Contains xs x
  in_cases y xs x h =
      elim (Contains-append_cases (y ∷ []) xs x h) [
        | inl w ↦ elim (Contains-push_cases [] y x w) [ inl v ↦ absurd (in_none x v) | inr e ↦ inl e ]
        | inr w ↦ inr w
      ]

  -- a filter keeps what passes the test
  pub kept : (test : X → Bool) (xs : List X) (x : X) → Contains xs x → test x ≡ true → Contains (filter test xs) x
  kept test [] x h e = h
  kept test (y ∷ xs) x h e =
      elim (in_cases y xs x h) [
        | inl same ↦
            let here : test y ≡ true = ap test same ∙ e in
            rw here (is_first y x (filter test xs) same)
        | inr w ↦
            let rest = kept test xs x w e in
            elim (test y) as (λ b. Contains (cond b (y ∷ filter test xs) (filter test xs)) x) [
              | true ↦ in_rest y (filter test xs) x rest
              | false ↦ rest
            ]
      ]

  -- and nothing else
  pub kept_only : (test : X → Bool) (xs : List X) (x : X) → Contains (filter test xs) x
      → Contains xs x × (test x ≡ true)
  kept_only test [] x h = absurd (in_none x h)
  kept_only test (y ∷ xs) x h =
      elim (test y) as (λ b. test y ≡ b → Contains (cond b (y ∷ filter test xs) (filter test xs)) x
      → Contains (y ∷ xs) x × (test x ≡ true)) [
        | true ↦ λ e w. elim (in_cases y (filter test xs) x w) [
          | inl same ↦ (is_first y x xs same, sym (ap test same) ∙ e)
          | inr v ↦ let rest = kept_only test xs x v in (in_rest y xs x rest.0, rest.1)
        ]
        | false ↦ λ e w. let rest = kept_only test xs x w in (in_rest y xs x rest.0, rest.1)
      ] refl h

  -- each element passes a test that all pass
  pub passes : (test : X → Bool) (xs : List X) (x : X) → list_all test xs ≡ true → Contains xs x → test x ≡ true
  passes test [] x all h = absurd (in_none x h)
  passes test (y ∷ xs) x all h =
      let parts = and_parts (test y) (list_all test xs) all in
      elim (in_cases y xs x h) [
        | inl same ↦ sym (ap test same) ∙ parts.0
        | inr w ↦ passes test xs x parts.1 w
      ]

module _ {X Y : Type 0} where
  -- the stretch of an element
  pub in_stretch : (f : X → List Y) (xs : List X) (x : X) (y : Y) → Contains xs x → Contains (f x) y
      → Contains (flat_map f xs) y
  in_stretch f [] x y h w = absurd (in_none x h)
  in_stretch f (z ∷ xs) x y h w =
      elim (in_cases z xs x h) [
        | inl same ↦ Contains-append_left (f z) (flat_map f xs) y (rw same w)
        | inr v ↦ Contains-append_right (f z) (flat_map f xs) y (in_stretch f xs x y v w)
      ]

  -- the element of whose stretch it is
  pub of_stretch : (f : X → List Y) (xs : List X) (y : Y) → Contains (flat_map f xs) y
      → (x : X) × Contains xs x × Contains (f x) y
  of_stretch f [] y h = absurd (in_none y h)
  of_stretch f (z ∷ xs) y h =
      elim (Contains-append_cases (f z) (flat_map f xs) y h) [
        | inl w ↦ (z, in_first z xs, w)
        | inr w ↦ let r = of_stretch f xs y w in (r.0, in_rest z xs r.0 r.1, r.2)
      ]

  -- the image of an element
  pub in_image : (f : X → Y) (xs : List X) (x : X) → Contains xs x → Contains (map f xs) (f x)
  in_image f [] x h = absurd (in_none x h)
  in_image f (z ∷ xs) x h =
      elim (in_cases z xs x h) [
        | inl same ↦ is_first (f z) (f x) (map f xs) (ap f same)
        | inr w ↦ in_rest (f z) (map f xs) (f x) (in_image f xs x w)
      ]

  -- the element whose image it is
  pub of_image : (f : X → Y) (xs : List X) (y : Y) → Contains (map f xs) y → (x : X) × Contains xs x × (f x ≡ y)
  of_image f [] y h = absurd (in_none y h)
  of_image f (z ∷ xs) y h =
      elim (in_cases (f z) (map f xs) y h) [
        | inl same ↦ (z, in_first z xs, same)
        | inr w ↦ let r = of_image f xs y w in (r.0, in_rest z xs r.0 r.1, r.2)
      ]

-- a number of a range
pub in_range : (n s : ℕ) → s < n → Contains (range_with_len 0 n) s
in_range n s l =
    let long = length-range_with_len 0 n in
    (s, omega (arith, long), get_or-range_with_len 0 n s s l ∙ zero-add s)

-- is below its end
pub of_range : (n s : ℕ) → Contains (range_with_len 0 n) s → s < n
of_range n s h =
    let long = length-range_with_len 0 n in
    let within : h.0 < n = omega (arith, long, h.1) in
    let value = get_or-range_with_len 0 n h.0 s within in
    omega (arith, h.2, value)
