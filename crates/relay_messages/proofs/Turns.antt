-- The turns of the loop that skips what is open.
use Rattle.std.proofs.Common.{◌≡◌, ℕ, zero, suc, ◌-◌, ◌<◌, ◌≤◌, List, [], ◌∷◌, ◌++◌, length, Bool, true, false, cond, Result, Ok, Err, OnErr, Option, Some, None, is_some, option_map, option_and_then, refl, sym, ap, ◌∙◌, arith, true≢false, length-append}
use Rattle.std.specs.Bool.{MatchBool}
use Rattle.json.specs.Token.{Token}
use Rattle.json.specs.Json as json
use Rattle.json.specs.Json.{Json, Parse, after_end_array, parse_map, read_key, items, items_step, members, members_step, value}
use Rattle.json.proofs.Grammar.{Takes, left, left-parse_map, read_key-shorter, skip_value-shorter}
use Rattle.serde_json.specs.Data.{Data, Members, no_members, item, put}
use Rattle.serde_json.specs.Read.{converted, of_items, of_json, of_members}
use Rattle.relay_messages.proofs.Converted.{item_read, item_refused, items_over, key_refused, member_refused}
use Rattle.relay_messages.proofs.PlainReading.{member_read, members_over}
use Rattle.relay_messages.proofs.FirstValues.{first_shorter}
use Rattle.relay_messages.specs.Passing.{behind, opened_passed, outer_passed, passed, rest_passed, still_passed}
use Rattle.relay_messages.specs.declared.passing.Nest.{Nest}
use Rattle.relay_messages.specs.declared.passing.Nest.TheVariants.{Array, Object}

-- ---- What is known after a fault, and of a test.

pub on_err : {A E P : Type 0} (r : Result A E) → P → OnErr r P
on_err (Ok a) p = tt
on_err (Err e) p = p

pub if_true : {A : Type 0} (test : Bool) (x y z : A) → x ≡ cond test y z → test ≡ true → x ≡ y
if_true true x y z h is = h
if_true false x y z h is = absurd (true≢false (sym is))

pub if_false : {A : Type 0} (test : Bool) (x y z : A) → x ≡ cond test y z → test ≡ false → x ≡ z
if_false true x y z h is = absurd (true≢false is)
if_false false x y z h is = h

-- ---- More turns than there are tokens change nothing.

same_then : {A B : Type 0} (f g : A → Option B) (o : Option A) → ((a : A) → o ≡ Some a → f a ≡ g a) → option_and_then f o ≡ option_and_then g o
same_then f g None same = refl
same_then f g (Some a) same = same a refl

module _ (p : Parse Json) (takes : Takes p) where
  none_first : (o : Option (Json × List Token)) → p [] ≡ o → o ≡ None
  none_first None e = refl
  none_first (Some q) e = let never : ⊥ = omega (arith, takes [] q.1 (ap left e)) in absurd never

  no_items_left : (n : ℕ) → items p n [] ≡ None
  unfolding items
  no_items_left zero = refl
  no_items_left (suc n) = ap (option_and_then (λ q. parse_map (json.item q.0) (items p n q.1))) (none_first (p []) refl)

  item_turns : (n m : ℕ) (ts : List Token) (o : Option (List Token)) → length ts ≤ suc n → length ts ≤ suc m
      → ((r : List Token) → length r ≤ n → length r ≤ m → items p n r ≡ items p m r)
      → items_step p (items p n) ts o ≡ items_step p (items p m) ts o
  item_turns n m ts (Some r) a b again = refl
  item_turns n m ts None a b again =
      same_then _ _ (p ts) (λ q e. ap (parse_map (json.item q.0)) (again q.1 (omega (arith, a, takes ts q.1 (ap left e))) (omega (arith, b, takes ts q.1 (ap left e)))))

  items_turns : (n m : ℕ) (ts : List Token) → length ts ≤ n → length ts ≤ m → items p n ts ≡ items p m ts
  unfolding items
  items_turns n m [] a b = no_items_left n ∙ sym (no_items_left m)
  items_turns zero m (t ∷ ts) a b = let never : ⊥ = omega (arith, a) in absurd never
  items_turns (suc n) zero (t ∷ ts) a b = let never : ⊥ = omega (arith, b) in absurd never
  items_turns (suc n) (suc m) (t ∷ ts) a b = item_turns n m (t ∷ ts) (after_end_array (t ∷ ts)) a b (items_turns n m)

  no_members_left : (n : ℕ) → members p n [] ≡ None
  unfolding members
  no_members_left zero = refl
  no_members_left (suc n) = refl

  member_turns : (n m : ℕ) (k : Option (List ℕ)) (ts : List Token) → length ts ≤ n → length ts ≤ m
      → ((r : List Token) → length r ≤ n → length r ≤ m → members p n r ≡ members p m r)
      → members_step p (members p n) k ts ≡ members_step p (members p m) k ts
  member_turns n m None ts a b again = refl
  member_turns n m (Some k) ts a b again =
      same_then _ _ (p ts) (λ q e. ap (parse_map (json.member k q.0)) (again q.1 (omega (arith, a, takes ts q.1 (ap left e))) (omega (arith, b, takes ts q.1 (ap left e)))))

  members_turns : (n m : ℕ) (ts : List Token) → length ts ≤ n → length ts ≤ m → members p n ts ≡ members p m ts
  unfolding members
  members_turns n m [] a b = no_members_left n ∙ sym (no_members_left m)
  members_turns zero m (t ∷ ts) a b = let never : ⊥ = omega (arith, a) in absurd never
  members_turns (suc n) zero (t ∷ ts) a b = let never : ⊥ = omega (arith, b) in absurd never
  members_turns (suc n) (suc m) (t ∷ ts) a b =
      same_then _ _ (read_key (t ∷ ts)) (λ q e. let less = read_key-shorter (t ∷ ts) q.0 q.1 e in member_turns n m q.0 q.1 (omega (arith, a, less)) (omega (arith, b, less)) (members_turns n m))

-- ---- What follows an object does not depend on the members before.

any_then : {A B : Type 0} (f g : A → Option B) (o : Option A) → ((a : A) → is_some (f a) ≡ is_some (g a)) → is_some (option_and_then f o) ≡ is_some (option_and_then g o)
any_then f g None same = refl
any_then f g (Some a) same = same a

any_members : (ms : json.Members) (a b : Members) → is_some (of_members ms a) ≡ is_some (of_members ms b)
any_members json.no_members a b = refl
any_members (json.member k j ms) a b = any_then _ _ (of_json j) (λ d. any_members ms (put k d a) (put k d b))

behind_any : {B : Type 0} (x y : Option B) (r : List Token) → is_some x ≡ is_some y → behind (option_map (λ b. (b, r)) x) ≡ behind (option_map (λ b. (b, r)) y)
behind_any None None r same = refl
behind_any None (Some b) r same = absurd (true≢false (sym same))
behind_any (Some a) None r same = absurd (true≢false same)
behind_any (Some a) (Some b) r same = refl

behind_members : (a b : Members) (o : Option (json.Members × List Token))
    → behind (converted (λ ms. of_members ms a) o) ≡ behind (converted (λ ms. of_members ms b) o)
behind_members a b None = refl
behind_members a b (Some p) = behind_any (of_members p.0 a) (of_members p.0 b) p.1 (any_members p.0 a b)

-- ---- One item or member is skipped, and then the rest.

item_then : (depth : ℕ) (ts : List Token) (x : Option (Data × List Token)) → after_end_array ts ≡ None → converted of_json (value depth ts) ≡ x
    → rest_passed Array depth ts ≡ option_and_then (rest_passed Array depth) (behind x)
item_then depth ts None going e = ap behind (item_refused (value depth) (length ts) ts going e)
item_then depth ts (Some q) going e =
    let r = q.1 in
    let less = first_shorter depth ts r q.0 e in
    ap behind (item_read (value depth) (length ts) ts r q.0 (omega (arith, less)) going e)
    ∙ left-parse_map (item q.0) _
    ∙ ap (λ o. behind (converted of_items o)) (items_turns (value depth) (skip_value-shorter depth) (length ts - 1) (length r) r (omega (arith, less)) (omega arith))

item_passed : (depth : ℕ) (ts : List Token) → after_end_array ts ≡ None → rest_passed Array depth ts ≡ option_and_then (rest_passed Array depth) (passed depth ts)
item_passed depth ts going = item_then depth ts (converted of_json (value depth ts)) going refl

array_closed : (depth : ℕ) (ts r : List Token) → after_end_array ts ≡ Some r → rest_passed Array depth ts ≡ Some r
array_closed depth ts r e = ap behind (items_over (value depth) (length ts) ts r (omega arith) e)

member_then : (depth : ℕ) (ts s : List Token) (k : List ℕ) (x : Option (Data × List Token)) → read_key ts ≡ Some (Some k, s) → converted of_json (value depth s) ≡ x
    → rest_passed Object depth ts ≡ option_and_then (rest_passed Object depth) (behind x)
member_then depth ts s k None key e = ap behind (member_refused (value depth) no_members (length ts) k ts s key e)
member_then depth ts s k (Some q) key e =
    let r = q.1 in
    let less = first_shorter depth s r q.0 e in
    let lesser = read_key-shorter ts (Some k) s key in
    ap behind (member_read (value depth) no_members (length ts) k ts s r q.0 (omega (arith, lesser)) key e)
    ∙ ap (λ o. behind (converted (λ ms. of_members ms (put k q.0 no_members)) o)) (members_turns (value depth) (skip_value-shorter depth) (length ts - 1) (length r) r (omega (arith, less, lesser)) (omega arith))
    ∙ behind_members (put k q.0 no_members) no_members (members (value depth) (length r) r)

member_passed : (depth : ℕ) (ts s : List Token) (k : List ℕ) → read_key ts ≡ Some (Some k, s)
    → rest_passed Object depth ts ≡ option_and_then (rest_passed Object depth) (passed depth s)
member_passed depth ts s k key = member_then depth ts s k (converted of_json (value depth s)) key refl

object_closed : (depth : ℕ) (ts r : List Token) → read_key ts ≡ Some (None, r) → rest_passed Object depth ts ≡ Some r
object_closed depth ts r e = ap behind (members_over (value depth) no_members (length ts) ts r (omega arith) e)

object_refused : (depth : ℕ) (ts : List Token) → read_key ts ≡ None → rest_passed Object depth ts ≡ None
object_refused depth ts e = ap behind (key_refused (value depth) no_members (length ts) ts e)

-- ---- What closes an array or an object, or continues it.

pub array_step : (nest : Nest) (closes : Bool) (old new : List Token) → nest ≡ Array
    → MatchBool closes (after_end_array old ≡ Some new) ((after_end_array old ≡ None) × (new ≡ old))
    → (depth : ℕ) → rest_passed nest depth old ≡ cond closes (Some new) (option_and_then (rest_passed nest depth) (passed depth new))
array_step Object closes old new is h depth = absurd (cc)
array_step Array true old new is h depth = array_closed depth old new h
array_step Array false old new is h depth = item_passed depth old h.0 ∙ ap (λ ts. option_and_then (rest_passed Array depth) (passed depth ts)) (sym h.1)

module _ (nest : Nest) (old : List Token) (is : nest ≡ Object) where
  pub object_goes_on : (new : List Token) (k : List ℕ) → read_key old ≡ Some (Some k, new)
      → (depth : ℕ) → rest_passed nest depth old ≡ option_and_then (rest_passed nest depth) (passed depth new)
  object_goes_on new k key depth = rw is (member_passed depth old new k key)

  pub object_closes : (new : List Token) → read_key old ≡ Some (None, new) → (depth : ℕ) → rest_passed nest depth old ≡ Some new
  object_closes new key depth = rw is (object_closed depth old new key)

  pub object_has_no_key : read_key old ≡ None → (depth : ℕ) → rest_passed nest depth old ≡ None
  object_has_no_key key depth = rw is (object_refused depth old key)

-- ---- What is open.

outer_none : (depth : ℕ) (outer : List Nest) → outer_passed depth outer None ≡ None
outer_none depth [] = refl
outer_none depth (nest ∷ outer) = ap (option_and_then (rest_passed nest depth)) (outer_none (depth - 1) outer)

outer_push : (depth : ℕ) (outer : List Nest) (nest : Nest) (inner : Option (List Token))
    → outer_passed depth (outer ++ nest ∷ []) inner ≡ outer_passed depth outer (option_and_then (rest_passed nest (depth - length outer)) inner)
outer_push depth [] nest inner =
    let same : depth ≡ depth - length {A = Nest} [] = omega arith in
    ap (λ d. option_and_then (rest_passed nest d) inner) same
outer_push depth (first ∷ outer) nest inner =
    let same : depth - 1 - length outer ≡ depth - length (first ∷ outer) = omega arith in
    ap (option_and_then (rest_passed first depth)) (outer_push (depth - 1) outer nest inner
    ∙ ap (λ d. outer_passed (depth - 1) outer (option_and_then (rest_passed nest d) inner)) same)

module _ (depth : ℕ) (outer : List Nest) (innermost : Nest) (ts : List Token) where
  pub turn_refused : rest_passed innermost (depth - length outer) ts ≡ None → still_passed depth outer innermost ts ≡ None
  turn_refused none = ap (outer_passed depth outer) none ∙ outer_none depth outer

  pub turn_closes : (rest : List Nest) (nest : Nest) (r : List Token) → outer ≡ rest ++ nest ∷ [] → rest_passed innermost (depth - length outer) ts ≡ Some r
      → still_passed depth outer innermost ts ≡ still_passed depth rest nest r
  turn_closes rest nest r is read = ap (outer_passed depth outer) read ∙ ap (λ o. outer_passed depth o (Some r)) is ∙ outer_push depth rest nest (Some r)

  pub turn_over : (r : List Token) → outer ≡ [] → rest_passed innermost (depth - length outer) ts ≡ Some r → still_passed depth outer innermost ts ≡ Some r
  turn_over r none read = ap (outer_passed depth outer) read ∙ ap (λ o. outer_passed depth o (Some r)) none

  module _ (x : Option (List Token)) (next : rest_passed innermost (depth - length outer) ts ≡ option_and_then (rest_passed innermost (depth - length outer)) x) where
    pub turn_passes : (r : List Token) → x ≡ Some r → still_passed depth outer innermost ts ≡ still_passed depth outer innermost r
    turn_passes r is = ap (outer_passed depth outer) (next ∙ ap (option_and_then (rest_passed innermost (depth - length outer))) is)

    pub turn_fails : x ≡ None → still_passed depth outer innermost ts ≡ None
    turn_fails is = turn_refused (next ∙ ap (option_and_then (rest_passed innermost (depth - length outer))) is)

    pub turn_opens : (inner : Nest) (r : List Token) (more : List Nest) → length outer < depth → more ≡ outer ++ innermost ∷ [] → x ≡ opened_passed inner (depth - length outer) r
        → still_passed depth outer innermost ts ≡ still_passed depth more inner r
    turn_opens inner r more some is opened =
        let left : depth - length outer ≡ suc (depth - length more) = omega (arith, some, ap length is, length-append outer (innermost ∷ [])) in
        ap (outer_passed depth outer) next ∙ sym (outer_push depth outer innermost x) ∙ ap (λ o. outer_passed depth o x) (sym is)
        ∙ ap (outer_passed depth more) (opened ∙ ap (λ d. opened_passed inner d r) left)

    pub turn_too_deep : (inner : Nest) (r : List Token) → depth ≤ length outer → x ≡ opened_passed inner (depth - length outer) r → still_passed depth outer innermost ts ≡ None
    turn_too_deep inner r full opened =
        let none : depth - length outer ≡ 0 = omega (arith, full) in
        turn_fails (opened ∙ ap (λ d. opened_passed inner d r) none)

-- at first nothing is open but the innermost
pub turn_first : (depth : ℕ) (nest : Nest) (ts : List Token) (outer : List Nest) → outer ≡ [] → rest_passed nest depth ts ≡ still_passed depth outer nest ts
turn_first depth nest ts outer none =
    let same : depth ≡ depth - length outer = omega (arith, ap length none) in
    ap (λ d. rest_passed nest d ts) same ∙ sym (ap (λ o. outer_passed depth o (rest_passed nest (depth - length outer) ts)) none)
