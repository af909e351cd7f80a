-- What a change of the followers keeps of the order of joining.
use Rattle.std.proofs.Common.{◌≡◌, ℕ, nat_eq, Bool, true, false, ◌||◌, cond, is_some, List, [], ◌∷◌, ◌++◌, Option, None, Some, option_map, count_by, refl, sym, ap, ◌∙◌, subst, eqb-true}
use Rattle.std.specs.Cmp.{nat_eq_equiv}
use Rattle.std.specs.HashMap.{HashMap, IsUnique}
use Rattle.std.specs.List.{AllByRecursion, IsDistinct, list_any}
use Rattle.std.specs.List.Sorted.{IsPermutation}
use Rattle.std.specs.Map.{keys_of, lookup, remove_entry, set_value}
use Rattle.std.specs.Set.{remove_key}
use Rattle.std.proofs.lemmas.List.Folds.{list_any-append}
use Rattle.std.proofs.lemmas.List.Sorted.{sum_by-IsPermutation}
use Rattle.std.proofs.lemmas.Map.{keys-set_value}
use Rattle.std.proofs.lemmas.Map.Made.{is_some-lookup}
use Rattle.std.proofs.lemmas.Map.Keys.{IsDistinct-cons, IsDistinct-head, IsDistinct-push, IsDistinct-tail}
use Rattle.std.proofs.lemmas.Map.Lookups.{hash_map_IsPermutation_from_get, map_keys}
use Rattle.indexmap.specs.IndexMap.{with_entries}
use Rattle.relay_core.specs.Held.Order.{IsOrderOf, in_front, in_order}
use Rattle.relay_core.proofs.lemmas.Lists.{lookup-map, set_value-map, shown}

-- ---- Spectators in an order.

-- the first stands there
first : (w : ℕ) (ws : List ℕ) → list_any (nat_eq w) (w ∷ ws) ≡ true
first w ws = ap (λ b. b || list_any (nat_eq w) ws) (nat_eq_equiv.refl w)

later : (b c : Bool) → c ≡ true → (b || c) ≡ true
later true c h = refl
later false c h = h

neither : (b c : Bool) → (b || c) ≡ false → (b ≡ false) × (c ≡ false)
neither true c h = cc
neither false c h = (refl, h)

-- one that stands once does not stand behind itself
not_behind : (w : ℕ) (ws : List ℕ) → AllByRecursion (λ y. nat_eq w y ≡ false) ws → list_any (nat_eq w) ws ≡ false
not_behind w [] h = refl
not_behind w (y ∷ ys) (p, h) = ap (λ b. b || list_any (nat_eq w) ys) p ∙ not_behind w ys h

all_removed : (P : ℕ → Type 0) (k : ℕ) (ws : List ℕ) → AllByRecursion P ws → AllByRecursion P (remove_key (nat_eq k) ws)
all_removed P k [] h = h
all_removed P k (w ∷ ws) (p, h) = by (nat_eq k w) (all_removed P k ws h)
  where
    by : (b : Bool) → AllByRecursion P (remove_key (nat_eq k) ws) → AllByRecursion P (cond b ws (w ∷ remove_key (nat_eq k) ws))
    by true rest = h
    by false rest = (p, rest)

distinct_removed : (k : ℕ) (ws : List ℕ) → IsDistinct nat_eq ws → IsDistinct nat_eq (remove_key (nat_eq k) ws)
distinct_removed k [] h = h
distinct_removed k (w ∷ ws) h = by (nat_eq k w) (distinct_removed k ws (IsDistinct-tail nat_eq w ws h))
  where
    by : (b : Bool) → IsDistinct nat_eq (remove_key (nat_eq k) ws) → IsDistinct nat_eq (cond b ws (w ∷ remove_key (nat_eq k) ws))
    by true rest = IsDistinct-tail nat_eq w ws h
    by false rest =
        IsDistinct-cons nat_eq w (remove_key (nat_eq k) ws) (all_removed (λ y. nat_eq w y ≡ false) k ws (IsDistinct-head nat_eq w ws h)) rest

-- who stands there once one has left
any_removed : (k q : ℕ) (ws : List ℕ) → IsDistinct nat_eq ws
    → list_any (nat_eq q) (remove_key (nat_eq k) ws) ≡ cond (nat_eq k q) false (list_any (nat_eq q) ws)
any_removed k q [] h = by (nat_eq k q)
  where
    by : (b : Bool) → false ≡ cond b false false
    by true = refl
    by false = refl
any_removed k q (w ∷ ws) h = by (nat_eq k w) refl (nat_eq k q) refl (any_removed k q ws (IsDistinct-tail nat_eq w ws h))
  where
    by : (b : Bool) → nat_eq k w ≡ b → (c : Bool) → nat_eq k q ≡ c
        → list_any (nat_eq q) (remove_key (nat_eq k) ws) ≡ cond c false (list_any (nat_eq q) ws)
        → list_any (nat_eq q) (cond b ws (w ∷ remove_key (nat_eq k) ws)) ≡ cond c false (nat_eq q w || list_any (nat_eq q) ws)
    by true e true f rest =
        ap (λ t. list_any (nat_eq t) ws) (sym (eqb-true k q f) ∙ eqb-true k w e) ∙ not_behind w ws (IsDistinct-head nat_eq w ws h)
    by true e false f rest =
        let other : nat_eq q w ≡ false = ap (nat_eq q) (sym (eqb-true k w e)) ∙ nat_eq_equiv.symm q k ∙ f in
        sym (ap (λ b. b || list_any (nat_eq q) ws) other)
    by false e true f rest =
        let other : nat_eq q w ≡ false = ap (λ t. nat_eq t w) (sym (eqb-true k q f)) ∙ e in
        ap (λ b. b || list_any (nat_eq q) (remove_key (nat_eq k) ws)) other ∙ rest
    by false e false f rest = ap (λ t. nat_eq q w || t) rest

-- ---- The entries in an order.

module _ {V : Type 0} where
  none_either : (b : Bool) (x : Option V) → x ≡ None → cond b x None ≡ x
  none_either true x h = refl
  none_either false x h = sym h

  if_some : (x : Option V) → cond (is_some x) x None ≡ x
  if_some None = refl
  if_some (Some v) = refl

  -- what is found there is what the entries hold for those in the order
  found : (q : ℕ) (order : List ℕ) (es : List (ℕ × V))
      → lookup (nat_eq q) (in_order order es) ≡ cond (list_any (nat_eq q) order) (lookup (nat_eq q) es) None
  found q [] es = refl
  found q (w ∷ ws) es = by (lookup (nat_eq w) es) refl (nat_eq q w) refl (found q ws es)
    where
      by : (o : Option V) → lookup (nat_eq w) es ≡ o → (b : Bool) → nat_eq q w ≡ b
          → lookup (nat_eq q) (in_order ws es) ≡ cond (list_any (nat_eq q) ws) (lookup (nat_eq q) es) None
          → lookup (nat_eq q) (in_front w o (in_order ws es)) ≡ cond (b || list_any (nat_eq q) ws) (lookup (nat_eq q) es) None
      by (Some v) h true e rest =
          ap (λ b. cond b (Some v) (lookup (nat_eq q) (in_order ws es))) e ∙ sym (ap (λ t. lookup (nat_eq t) es) (eqb-true q w e) ∙ h)
      by (Some v) h false e rest = ap (λ b. cond b (Some v) (lookup (nat_eq q) (in_order ws es))) e ∙ rest
      by None h true e rest =
          rest ∙ none_either (list_any (nat_eq q) ws) (lookup (nat_eq q) es) (ap (λ t. lookup (nat_eq t) es) (eqb-true q w e) ∙ h)
      by None h false e rest = rest

  pub reads : (order : List ℕ) (es : List (ℕ × V)) → IsOrderOf order es → (q : ℕ)
      → lookup (nat_eq q) (in_order order es) ≡ lookup (nat_eq q) es
  reads order es was q =
      found q order es ∙ ap (λ b. cond b (lookup (nat_eq q) es) None) (was.same q) ∙ if_some (lookup (nat_eq q) es)

  -- one that is not found does not stand in the order
  pub is_out : (order : List ℕ) (es : List (ℕ × V)) → IsOrderOf order es → (k : ℕ) → lookup (nat_eq k) (in_order order es) ≡ None
      → list_any (nat_eq k) order ≡ false
  is_out order es was k none = was.same k ∙ ap is_some (sym (reads order es was k) ∙ none)

  -- a value that is found is the one that a look-up of its own key finds
  pub nobody_else : (es : List (ℕ × V)) (k q : ℕ) (o : Option V) → lookup (nat_eq k) es ≡ o
      → lookup (nat_eq q) es ≡ cond (nat_eq k q) o (lookup (nat_eq q) es)
  nobody_else es k q o is = by (nat_eq k q) refl
    where
      by : (b : Bool) → nat_eq k q ≡ b → lookup (nat_eq q) es ≡ cond b o (lookup (nat_eq q) es)
      by true e = ap (λ t. lookup (nat_eq t) es) (sym (eqb-true k q e)) ∙ is
      by false e = refl

  -- entries that agree on those in the order
  agree : (order : List ℕ) (es fs : List (ℕ × V))
      → ((q : ℕ) → list_any (nat_eq q) order ≡ true → lookup (nat_eq q) fs ≡ lookup (nat_eq q) es) → in_order order fs ≡ in_order order es
  agree [] es fs h = refl
  agree (w ∷ ws) es fs h =
      ap (λ o. in_front w o (in_order ws fs)) (h w (first w ws))
      ∙ ap (in_front w (lookup (nat_eq w) es)) (agree ws es fs (λ q t. h q (later (nat_eq q w) (list_any (nat_eq q) ws) t)))

  front_append : (w : ℕ) (o : Option V) (xs : List (ℕ × V)) (y : ℕ × V) → in_front w o (xs ++ y ∷ []) ≡ in_front w o xs ++ y ∷ []
  front_append w None xs y = refl
  front_append w (Some v) xs y = refl

  -- one that joins comes last
  pub pushed : (order : List ℕ) (es fs : List (ℕ × V)) (k : ℕ) (v : V) → list_any (nat_eq k) order ≡ false
      → ((q : ℕ) → lookup (nat_eq q) fs ≡ cond (nat_eq k q) (Some v) (lookup (nat_eq q) es))
      → in_order (order ++ k ∷ []) fs ≡ in_order order es ++ (k, v) ∷ []
  pushed [] es fs k v out updates =
      ap (λ o. in_front k o []) (updates k ∙ ap (λ b. cond b (Some v) (lookup (nat_eq k) es)) (nat_eq_equiv.refl k))
  pushed (w ∷ ws) es fs k v out updates =
      let parts = neither (nat_eq k w) (list_any (nat_eq k) ws) out in
      ap (λ o. in_front w o (in_order (ws ++ k ∷ []) fs)) (updates w ∙ ap (λ b. cond b (Some v) (lookup (nat_eq w) es)) parts.0)
      ∙ ap (in_front w (lookup (nat_eq w) es)) (pushed ws es fs k v parts.1 updates)
      ∙ front_append w (lookup (nat_eq w) es) (in_order ws es) (k, v)

  -- all in the order have an entry
  abbrev AreThere : List ℕ → List (ℕ × V) → Type 0
  AreThere order es = (q : ℕ) → list_any (nat_eq q) order ≡ true → is_some (lookup (nat_eq q) es) ≡ true

  behind : (w : ℕ) (ws : List ℕ) (es : List (ℕ × V)) → AreThere (w ∷ ws) es → AreThere ws es
  behind w ws es there q t = there q (later (nat_eq q w) (list_any (nat_eq q) ws) t)

  pub are_there : (order : List ℕ) (es : List (ℕ × V)) → IsOrderOf order es → AreThere order es
  are_there order es was q t = sym (was.same q) ∙ t

  -- those behind one that leaves follow those before it
  pub removed : (order : List ℕ) (es fs : List (ℕ × V)) (k : ℕ) → IsDistinct nat_eq order → AreThere order es
      → ((q : ℕ) → lookup (nat_eq q) fs ≡ cond (nat_eq k q) None (lookup (nat_eq q) es))
      → in_order (remove_key (nat_eq k) order) fs ≡ remove_entry (nat_eq k) (in_order order es)
  removed [] es fs k once there updates = refl
  removed (w ∷ ws) es fs k once there updates =
      by (nat_eq k w) refl (lookup (nat_eq w) es) refl (there w (first w ws))
      (removed ws es fs k (IsDistinct-tail nat_eq w ws once) (behind w ws es there) updates)
    where
      other : (q : ℕ) → k ≡ w → list_any (nat_eq q) ws ≡ true → (b : Bool) → nat_eq k q ≡ b → b ≡ false
      other q is t false e = refl
      other q is t true e =
          let behind_itself : list_any (nat_eq w) ws ≡ true = ap (λ x. list_any (nat_eq x) ws) (sym is ∙ eqb-true k q e) ∙ t in
          sym behind_itself ∙ not_behind w ws (IsDistinct-head nat_eq w ws once)

      by : (b : Bool) → nat_eq k w ≡ b → (o : Option V) → lookup (nat_eq w) es ≡ o → is_some o ≡ true
          → in_order (remove_key (nat_eq k) ws) fs ≡ remove_entry (nat_eq k) (in_order ws es)
          → in_order (cond b ws (w ∷ remove_key (nat_eq k) ws)) fs ≡ remove_entry (nat_eq k) (in_front w o (in_order ws es))
      by b e None h some rest = cc
      by true e (Some v) h some rest =
          agree ws es fs (λ q t. updates q ∙ ap (λ b. cond b None (lookup (nat_eq q) es)) (other q (eqb-true k w e) t (nat_eq k q) refl))
          ∙ sym (ap (λ b. cond b (in_order ws es) ((w, v) ∷ remove_entry (nat_eq k) (in_order ws es))) e)
      by false e (Some v) h some rest =
          ap (λ o. in_front w o (in_order (remove_key (nat_eq k) ws) fs)) (updates w ∙ ap (λ b. cond b None (lookup (nat_eq w) es)) e ∙ h)
          ∙ ap (λ t. (w, v) ∷ t) rest
          ∙ sym (ap (λ b. cond b (in_order ws es) ((w, v) ∷ remove_entry (nat_eq k) (in_order ws es))) e)

  -- entries that hold the same for everybody are the same in an order
  pub unchanged : (order : List ℕ) (es fs : List (ℕ × V)) → ((q : ℕ) → lookup (nat_eq q) fs ≡ lookup (nat_eq q) es) → in_order order fs ≡ in_order order es
  unchanged order es fs same = agree order es fs (λ q _. same q)

  -- one that is changed keeps its place
  pub changed_there : (order : List ℕ) (es fs : List (ℕ × V)) (k : ℕ) (v w : V) → IsDistinct nat_eq order → lookup (nat_eq k) es ≡ Some v
      → ((q : ℕ) → lookup (nat_eq q) fs ≡ cond (nat_eq k q) (Some w) (lookup (nat_eq q) es))
      → in_order order fs ≡ set_value (nat_eq k) (in_order order es) w
  changed_there [] es fs k v w once there updates = refl
  changed_there (x ∷ xs) es fs k v w once there updates =
      by (nat_eq k x) refl (lookup (nat_eq x) es) refl (changed_there xs es fs k v w (IsDistinct-tail nat_eq x xs once) there updates)
    where
      other : (q : ℕ) → k ≡ x → list_any (nat_eq q) xs ≡ true → (b : Bool) → nat_eq k q ≡ b → b ≡ false
      other q is t false e = refl
      other q is t true e =
          let behind_itself : list_any (nat_eq x) xs ≡ true = ap (λ y. list_any (nat_eq y) xs) (sym is ∙ eqb-true k q e) ∙ t in
          sym behind_itself ∙ not_behind x xs (IsDistinct-head nat_eq x xs once)

      by : (b : Bool) → nat_eq k x ≡ b → (o : Option V) → lookup (nat_eq x) es ≡ o
          → in_order xs fs ≡ set_value (nat_eq k) (in_order xs es) w
          → in_front x (lookup (nat_eq x) fs) (in_order xs fs) ≡ set_value (nat_eq k) (in_front x o (in_order xs es)) w
      by true e None h rest = let missing : Some v ≡ None = sym there ∙ ap (λ y. lookup (nat_eq y) es) (eqb-true k x e) ∙ h in cc
      by true e (Some u) h rest =
          ap (λ o. in_front x o (in_order xs fs)) (updates x ∙ ap (λ b. cond b (Some w) (lookup (nat_eq x) es)) e)
          ∙ ap (λ t. (x, w) ∷ t) (agree xs es fs (λ q t. updates q ∙ ap (λ b. cond b (Some w) (lookup (nat_eq q) es)) (other q (eqb-true k x e) t (nat_eq k q) refl)))
          ∙ sym (ap (λ b. cond b ((x, w) ∷ in_order xs es) ((x, u) ∷ set_value (nat_eq k) (in_order xs es) w)) e)
      by false e None h rest =
          ap (λ o. in_front x o (in_order xs fs)) (updates x ∙ ap (λ b. cond b (Some w) (lookup (nat_eq x) es)) e ∙ h) ∙ rest
      by false e (Some u) h rest =
          ap (λ o. in_front x o (in_order xs fs)) (updates x ∙ ap (λ b. cond b (Some w) (lookup (nat_eq x) es)) e ∙ h)
          ∙ ap (λ t. (x, u) ∷ t) rest
          ∙ sym (ap (λ b. cond b ((x, w) ∷ in_order xs es) ((x, u) ∷ set_value (nat_eq k) (in_order xs es) w)) e)

  -- nobody leaves who is not found
  pub removed_nobody : (es : List (ℕ × V)) (k : ℕ) → lookup (nat_eq k) es ≡ None → remove_entry (nat_eq k) es ≡ es
  removed_nobody [] k none = refl
  removed_nobody (e ∷ es) k none = by (nat_eq k e.0) none (removed_nobody es k)
    where
      by : (b : Bool) → cond b (Some e.1) (lookup (nat_eq k) es) ≡ None → (lookup (nat_eq k) es ≡ None → remove_entry (nat_eq k) es ≡ es)
          → cond b es (e ∷ remove_entry (nat_eq k) es) ≡ e ∷ es
      by true h rest = cc
      by false h rest = ap (λ t. e ∷ t) (rest h)

  -- the keys of the entries are the order
  keys : (order : List ℕ) (es : List (ℕ × V)) → AreThere order es → keys_of (in_order order es) ≡ order
  keys [] es there = refl
  keys (w ∷ ws) es there = by (lookup (nat_eq w) es) (there w (first w ws)) (keys ws es (behind w ws es there))
    where
      by : (o : Option V) → is_some o ≡ true → keys_of (in_order ws es) ≡ ws → keys_of (in_front w o (in_order ws es)) ≡ w ∷ ws
      by None some rest = cc
      by (Some v) some rest = ap (λ t. w ∷ t) rest

  same_keys : (es : List (ℕ × V)) → map_keys (λ k. k) es ≡ es
  same_keys [] = refl
  same_keys (e ∷ es) = ap (λ t. e ∷ t) (same_keys es)

  -- as many entries fit a test in either order
  pub counted : {S : Type 0} (m : HashMap ℕ V S) (order : List ℕ) → IsUnique nat_eq m → IsOrderOf order m.entries → (p : ℕ × V → Bool)
      → count_by p (in_order order m.entries) ≡ count_by p m.entries
  counted m order unique was p =
      let n = with_entries m (in_order order m.entries) in
      let once = subst (λ ks. IsDistinct nat_eq ks) (sym (keys order m.entries (are_there order m.entries was))) was.once in
      let shuffled = hash_map_IsPermutation_from_get nat_eq_equiv m n unique once (λ q. sym (reads order m.entries was q)) (λ k. k) eqb-true in
      let turned : IsPermutation m.entries (in_order order m.entries) =
      subst (λ l. IsPermutation l (in_order order m.entries)) (same_keys m.entries)
      (subst (λ l. IsPermutation (map_keys (λ k. k) m.entries) l) (same_keys (in_order order m.entries)) shuffled) in
      sum_by-IsPermutation (λ e. cond (p e) 1 0) m.entries (in_order order m.entries) turned

  -- ---- What keeps an order.

  module _ (order : List ℕ) (es fs : List (ℕ × V)) (was : IsOrderOf order es) where
    pub changed : ((q : ℕ) → is_some (lookup (nat_eq q) fs) ≡ is_some (lookup (nat_eq q) es)) → IsOrderOf order fs
    changed h = record { once = was.once; same = λ q. was.same q ∙ sym (h q) }

    pub keys_kept : keys_of fs ≡ keys_of es → IsOrderOf order fs
    keys_kept same = changed (λ q.
        is_some-lookup (nat_eq q) fs ∙ ap (list_any (nat_eq q)) same ∙ sym (is_some-lookup (nat_eq q) es))

    pub one_written : (k : ℕ) (v : V) → fs ≡ set_value (nat_eq k) es v → IsOrderOf order fs
    one_written k v written = keys_kept (ap keys_of written ∙ keys-set_value (nat_eq k) es v)

    pub one_more : (k : ℕ) (v : V) → list_any (nat_eq k) order ≡ false
        → ((q : ℕ) → lookup (nat_eq q) fs ≡ cond (nat_eq k q) (Some v) (lookup (nat_eq q) es)) → IsOrderOf (order ++ k ∷ []) fs
    one_more k v out updates = record {
      once = IsDistinct-push nat_eq_equiv order k was.once out;
      same = λ q. list_any-append (nat_eq q) order (k ∷ []) ∙ ap (λ b. list_any (nat_eq q) order || (b || false)) (nat_eq_equiv.symm q k)
          ∙ by (list_any (nat_eq q) order) (nat_eq k q) (lookup (nat_eq q) es) (was.same q) ∙ ap is_some (sym (updates q));
    }
      where
        by : (a b : Bool) (o : Option V) → a ≡ is_some o → (a || (b || false)) ≡ is_some (cond b (Some v) o)
        by true true o h = refl
        by false true o h = refl
        by true false o h = h
        by false false o h = h

    pub one_less : (k : ℕ) → ((q : ℕ) → lookup (nat_eq q) fs ≡ cond (nat_eq k q) None (lookup (nat_eq q) es))
        → IsOrderOf (remove_key (nat_eq k) order) fs
    one_less k updates = record {
      once = distinct_removed k order was.once;
      same = λ q. any_removed k q order was.once ∙ by (nat_eq k q) (list_any (nat_eq q) order) (lookup (nat_eq q) es) (was.same q) ∙ ap is_some (sym (updates q));
    }
      where
        by : (b a : Bool) (o : Option V) → a ≡ is_some o → cond b false a ≡ is_some (cond b None o)
        by true a o h = refl
        by false a o h = h

-- ---- Changed values.

module _ {V W : Type 0} (f : V → W) where
  front_shown : (w : ℕ) (o : Option V) (rest : List (ℕ × V)) → shown f (in_front w o rest) ≡ in_front w (option_map f o) (shown f rest)
  front_shown w None rest = refl
  front_shown w (Some v) rest = refl

  pub shown-in_order : (order : List ℕ) (es : List (ℕ × V)) → shown f (in_order order es) ≡ in_order order (shown f es)
  shown-in_order [] es = refl
  shown-in_order (w ∷ ws) es =
      front_shown w (lookup (nat_eq w) es) (in_order ws es)
      ∙ ap (λ o. in_front w o (shown f (in_order ws es))) (sym (lookup-map (nat_eq w) f es))
      ∙ ap (in_front w (lookup (nat_eq w) (shown f es))) (shown-in_order ws es)

-- a value that is written in the place of another
pub written : {V W : Type 0} (f : V → W) (order : List ℕ) (es : List (ℕ × V)) (k : ℕ) (v w : V) → lookup (nat_eq k) es ≡ Some v → f w ≡ f v
    → shown f (in_order order (set_value (nat_eq k) es w)) ≡ shown f (in_order order es)
written f order es k v w there same =
    shown-in_order f order (set_value (nat_eq k) es w)
    ∙ ap (in_order order) (set_value-map (nat_eq k) f es v w there same)
    ∙ sym (shown-in_order f order es)
