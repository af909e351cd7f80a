-- Lemmas on the members of a plain object, which are added one after another.
use Rattle.std.proofs.Common.{◌≡◌, ℕ, suc, List, [], ◌∷◌, ◌++◌, Bool, true, false, cond, Option, Some, None, Ordering, Less, Equal, Greater, true≢false}
use Rattle.std.proofs.Common.{◌+◌, ◌<◌, ◌^◌, ◌==◌, get_or, take, length, nat_lt, refl, sym, ap, ◌∙◌, arith, nat_cmp, SomeIff, IfSome, is_some, length-append, option_map}
use Rattle.fast_float.specs.Text.{IsInteger, Parts, digits_of, scan}
use Rattle.std.proofs.lemmas.List.{take_more}
use Rattle.std.proofs.lemmas.Slice.Eq.{bytes_eq-Decides}
use Rattle.std.specs.Cmp.Lexicographic.{slice_cmp}
use Rattle.std.specs.Ordering.{match_ordering}
use Rattle.std.specs.Str.{bytes_eq}
use Rattle.serde_json.specs.Data.{Data, Members, no_members, member, put, unsigned}
use Rattle.serde_json.specs.Read.{number_from, number_of}
use Rattle.serde_json.specs.Events.{members_len}
use Rattle.serde_json.specs.Find.{get_member}
use Rattle.serde_json.proofs.Views.{get_member-put, get_member-put_other}
use Rattle.relay_messages.specs.declared.member.Field.{Field}
use Rattle.relay_messages.specs.declared.member.Member.{Member}
use Rattle.relay_messages.specs.Members.{field_data, members_in, with_all}

with_all-push : (found : Members) (ms : List Member) (m : Member)
    → with_all found (ms ++ m ∷ []) ≡ put m.key.now (field_data m.field) (with_all found ms)
with_all-push found [] m = refl
with_all-push found (n ∷ ms) m = with_all-push (put n.key.now (field_data n.field) found) ms m

pub members_in-push : (ms : List Member) (m : Member)
    → members_in (ms ++ m ∷ []) ≡ put m.key.now (field_data m.field) (members_in ms)
members_in-push ms m = with_all-push no_members ms m

-- a member is found, or another
pub found_or_other : (same : Bool) (name key : List ℕ) (d : Data) (ms : Members) → bytes_eq key name ≡ same
    → get_member name (put key d ms) ≡ cond same (Some d) (get_member name ms)
found_or_other true name key d ms is =
    let here : key ≡ name = (bytes_eq-Decides key name).0 is in
    ap (λ k. get_member k (put key d ms)) (sym here) ∙ get_member-put key d ms
found_or_other false name key d ms is =
    get_member-put_other name key d ms (λ here. true≢false (sym ((bytes_eq-Decides key name).1 (sym here)) ∙ is))

-- the last member with a name is the one that is found
pub get_member-push : (name : List ℕ) (ms : List Member) (m : Member)
    → get_member name (members_in (ms ++ m ∷ [])) ≡ cond (bytes_eq m.key.now name) (Some (field_data m.field)) (get_member name (members_in ms))
get_member-push name ms m =
    ap (get_member name) (members_in-push ms m) ∙ found_or_other _ name m.key.now (field_data m.field) (members_in ms) refl

picked : (same : Bool) (field : Field) (before : Option Field)
    → option_map field_data (cond same (Some field) before) ≡ cond same (Some (field_data field)) (option_map field_data before)
picked true field before = refl
picked false field before = refl

-- One more member is looked at. The last so far with that name is either that member or the one found before.
pub found_next : (name : List ℕ) (ms : List Member) (i : ℕ) (d : Member) (same : Bool) (before after : Option Field)
    → i < length ms → same ≡ bytes_eq (get_or ms i d).key.now name → option_map field_data before ≡ get_member name (members_in (take i ms))
    → after ≡ cond same (Some (get_or ms i d).field) before → option_map field_data after ≡ get_member name (members_in (take (i + 1) ms))
found_next name ms i d same before after within compared so_far chosen =
    let m = get_or ms i d in
    let more = ap (λ xs. get_member name (members_in xs)) (take_more ms i d within) ∙ get_member-push name (take i ms) m in
    let either = λ (b : Bool). cond b (Some (field_data m.field)) (get_member name (members_in (take i ms))) in
    ap (option_map field_data) chosen ∙ picked same m.field before ∙ ap (λ o. cond same (Some (field_data m.field)) o) so_far
    ∙ ap either compared ∙ sym more

some≢none : {A : Type 0} (a : A) → Some a ≡ None → ⊥
some≢none a e = cc

missed : (o : Ordering) (d : Data) (rest : Option Data) → match_ordering o rest (Some d) rest ≡ None → rest ≡ None
missed Less d rest e = e
missed Equal d rest e = absurd (some≢none d e)
missed Greater d rest e = e

one_more : (o : Ordering) (k l : List ℕ) (d e : Data) (ms : Members) → match_ordering o (get_member k ms) (Some e) (get_member k ms) ≡ None
    → members_len (put k d ms) ≡ suc (members_len ms)
    → members_len (match_ordering o (member k d (member l e ms)) (member l d ms) (member l e (put k d ms))) ≡ suc (suc (members_len ms))
one_more Less k l d e ms none later = refl
one_more Equal k l d e ms none later = absurd (some≢none e none)
one_more Greater k l d e ms none later = ap suc later

-- a new key makes one more member
pub members_len-put : (k : List ℕ) (d : Data) (ms : Members) → get_member k ms ≡ None → members_len (put k d ms) ≡ suc (members_len ms)
members_len-put k d no_members none = refl
members_len-put k d (member l e ms) none =
    one_more (slice_cmp nat_cmp k l) k l d e ms none (members_len-put k d ms (missed (slice_cmp nat_cmp k l) e _ none))

-- a key that is not found is new
pub not_found : (found : Option Field) (o : Option Data) → option_map field_data found ≡ o → is_some found ≡ false → o ≡ None
not_found None o same none = sym same
not_found (Some field) o same none = absurd (true≢false none)

pub one_more_member : (ms more : List Member) (m : Member) → more ≡ ms ++ m ∷ [] → get_member m.key.now (members_in ms) ≡ None
    → members_len (members_in ms) ≡ length ms → members_len (members_in more) ≡ length more
one_more_member ms more m is none counted =
    let grown : members_len (members_in more) ≡ suc (members_len (members_in ms)) =
    ap (λ xs. members_len (members_in xs)) is ∙ ap members_len (members_in-push ms m) ∙ members_len-put m.key.now (field_data m.field) (members_in ms) none in
    omega (arith, grown, counted, ap length is, length-append ms (m ∷ []))

-- ---- The number of a text.

integer : (p : Parts) (n : ℕ) → (IsInteger p × (digits_of p < 2 ^ 64)) × (n ≡ digits_of p) → number_from false p ≡ Some (unsigned n)
integer p n h =
    let some : nat_lt 0 (length p.whole) ≡ true = grind (arith, h.0.0.0) in
    let point : p.point ≡ false = h.0.0.1 in
    let exponent : (length p.exponent == 0) ≡ true = grind (arith, h.0.0.2) in
    let fits : nat_lt (digits_of p) (2 ^ 64) ≡ true = grind (arith, h.0.1) in
    rw (some, point, exponent, fits) (ap (λ k. Some (unsigned k)) (sym h.1))

pub whole_number_read : (text bytes : List ℕ) (p : Parts) (found : Option ℕ) → p ≡ scan bytes → (get_or bytes 0 0 == 45) ≡ false → bytes ≡ text
    → SomeIff found (IsInteger p × (digits_of p < 2 ^ 64)) (digits_of p) → IfSome found (λ n. number_of text ≡ Some (unsigned n))
unfolding number_of
whole_number_read text bytes p None parts first same h = tt
whole_number_read text bytes p (Some n) parts first same h =
    let read : number_from false (scan bytes) ≡ number_of bytes = rw first in
    sym (ap number_of same) ∙ sym read ∙ sym (ap (number_from false) parts) ∙ integer p n h
