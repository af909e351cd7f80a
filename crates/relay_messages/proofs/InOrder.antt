-- Members that were added are in the order of their keys, each key once. So one with a key that is there already adds no other.
use Rattle.std.proofs.Common.{◌≡◌, ℕ, suc, List, [], ◌∷◌, ◌++◌, Option, Some, None, Ordering, Less, Equal, Greater, nat_cmp, true, is_some, option_map, true≢false, refl, sym, ap, ◌∙◌}
use Rattle.std.specs.Prelude.{⊤}
use Rattle.std.specs.Cmp.Lexicographic.{slice_cmp}
use Rattle.std.specs.Ordering.{match_ordering, ordering_reverse}
use Rattle.std.proofs.lemmas.Cmp.{nat_list_cmp_total}
use Rattle.serde_json.specs.Data.{Data, Members, no_members, member, put}
use Rattle.serde_json.specs.Events.{members_len}
use Rattle.serde_json.specs.Find.{get_member}
use Rattle.relay_messages.specs.declared.member.Field.{Field}
use Rattle.relay_messages.specs.declared.member.Member.{Member}
use Rattle.relay_messages.specs.Members.{field_data, members_in, with_all}
use Rattle.relay_messages.proofs.PlainFacts.{members_in-push, members_len-put}

-- a key is below that of the first
abbrev Below : List ℕ → Members → Type 0
Below k no_members = ⊤
Below k (member l e ms) = slice_cmp nat_cmp k l ≡ Less

abbrev InOrder : Members → Type 0
InOrder no_members = ⊤
InOrder (member l e ms) = Below l ms × InOrder ms

below : (k l : List ℕ) → slice_cmp nat_cmp k l ≡ Greater → slice_cmp nat_cmp l k ≡ Less
below k l is = nat_list_cmp_total.antisymm l k ∙ ap ordering_reverse is

Below-put_at : (o : Ordering) (l k m : List ℕ) (d e : Data) (ms : Members) → slice_cmp nat_cmp l k ≡ Less → slice_cmp nat_cmp l m ≡ Less
    → Below l (match_ordering o (member k d (member m e ms)) (member m d ms) (member m e (put k d ms)))
Below-put_at Less l k m d e ms a b = a
Below-put_at Equal l k m d e ms a b = b
Below-put_at Greater l k m d e ms a b = b

Below-put : (l k : List ℕ) (d : Data) (ms : Members) → slice_cmp nat_cmp l k ≡ Less → Below l ms → Below l (put k d ms)
Below-put l k d no_members a b = a
Below-put l k d (member m e ms) a b = Below-put_at (slice_cmp nat_cmp k m) l k m d e ms a b

InOrder-put_at : (o : Ordering) (k l : List ℕ) (d e : Data) (ms : Members) → slice_cmp nat_cmp k l ≡ o → InOrder (member l e ms) → InOrder (put k d ms)
    → InOrder (match_ordering o (member k d (member l e ms)) (member l d ms) (member l e (put k d ms)))
InOrder-put_at Less k l d e ms is h later = (is, h)
InOrder-put_at Equal k l d e ms is h later = h
InOrder-put_at Greater k l d e ms is h later = (Below-put l k d ms (below k l is) h.0, later)

InOrder-put : (k : List ℕ) (d : Data) (ms : Members) → InOrder ms → InOrder (put k d ms)
InOrder-put k d no_members h = (tt, tt)
InOrder-put k d (member l e ms) h = InOrder-put_at (slice_cmp nat_cmp k l) k l d e ms refl h (InOrder-put k d ms h.1)

InOrder-with_all : (found : Members) (ms : List Member) → InOrder found → InOrder (with_all found ms)
InOrder-with_all found [] h = h
InOrder-with_all found (m ∷ ms) h = InOrder-with_all (put m.key.now (field_data m.field) found) ms (InOrder-put m.key.now (field_data m.field) found h)

Below-trans : (k l : List ℕ) (ms : Members) → slice_cmp nat_cmp k l ≡ Less → Below l ms → Below k ms
Below-trans k l no_members a b = tt
Below-trans k l (member m e ms) a b = nat_list_cmp_total.trans k l m a b

none_below : (k : List ℕ) (ms : Members) → Below k ms → InOrder ms → get_member k ms ≡ None
none_below k no_members b h = refl
none_below k (member l e ms) b h =
    ap (λ o. match_ordering o (get_member k ms) (Some e) (get_member k ms)) b ∙ none_below k ms (Below-trans k l ms b h.0) h.1

none≢some : {A P : Type 0} (o : Option A) (x : A) → o ≡ None → o ≡ Some x → P
none≢some o x none some = absurd (cc)

known_at : (o : Ordering) (k l : List ℕ) (d e x : Data) (ms : Members) → slice_cmp nat_cmp k l ≡ o → InOrder (member l e ms)
    → match_ordering o (get_member k ms) (Some e) (get_member k ms) ≡ Some x → (get_member k ms ≡ Some x → members_len (put k d ms) ≡ members_len ms)
    → members_len (match_ordering o (member k d (member l e ms)) (member l d ms) (member l e (put k d ms))) ≡ suc (members_len ms)
known_at Less k l d e x ms is h found later = none≢some _ x (none_below k ms (Below-trans k l ms is h.0) h.1) found
known_at Equal k l d e x ms is h found later = refl
known_at Greater k l d e x ms is h found later = ap suc (later found)

members_len-put_known : (k : List ℕ) (d x : Data) (ms : Members) → InOrder ms → get_member k ms ≡ Some x → members_len (put k d ms) ≡ members_len ms
members_len-put_known k d x no_members h found = none≢some _ x refl found
members_len-put_known k d x (member l e ms) h found =
    known_at (slice_cmp nat_cmp k l) k l d e x ms refl h found (members_len-put_known k d x ms h.1)

pub known_member : (ms more : List Member) (m : Member) (x : Data) → more ≡ ms ++ m ∷ [] → get_member m.key.now (members_in ms) ≡ Some x
    → members_len (members_in more) ≡ members_len (members_in ms)
known_member ms more m x is found =
    ap (λ xs. members_len (members_in xs)) is ∙ ap members_len (members_in-push ms m)
    ∙ members_len-put_known m.key.now (field_data m.field) x (members_in ms) (InOrder-with_all no_members ms tt) found

pub new_member : (ms more : List Member) (m : Member) → more ≡ ms ++ m ∷ [] → get_member m.key.now (members_in ms) ≡ None
    → members_len (members_in more) ≡ suc (members_len (members_in ms))
new_member ms more m is none =
    ap (λ xs. members_len (members_in xs)) is ∙ ap members_len (members_in-push ms m) ∙ members_len-put m.key.now (field_data m.field) (members_in ms) none

-- a field that was found has a value
pub known_field : (found : Option Field) (o : Option Data) → option_map field_data found ≡ o → is_some found ≡ true → (x : Data) × (o ≡ Some x)
known_field None o same there = absurd (true≢false (sym there))
known_field (Some field) o same there = (field_data field, sym same)
