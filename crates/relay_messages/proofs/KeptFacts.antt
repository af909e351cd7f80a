-- What is kept of the members of an object, as they are added and looked up.
use Rattle.std.proofs.Common.{◌≡◌, ℕ, suc, true, List, Option, Some, None, Ordering, Less, Equal, Greater, is_some, nat_cmp, option_map, option_and_then, unwrap_or, refl, sym, ap, ◌∙◌}
use Rattle.std.specs.Cmp.Lexicographic.{slice_cmp}
use Rattle.std.specs.Ordering.{match_ordering}
use Rattle.serde_json.specs.Data.{Num, unsigned, negative, float, Data, null, boolean, number, string, array, object, Members, no_members, member, put}
use Rattle.serde_json.specs.Events.{members_len}
use Rattle.serde_json.specs.Find.{as_number, as_object, as_str, as_u64, get, get_member}
use Rattle.relay_messages.specs.Fields.{member_count, number_at, text_at}
use Rattle.relay_messages.specs.KeptValues.{kept, kept_members, kept_number, kept_object}
use Rattle.relay_messages.specs.Members.{field_data}
use Rattle.relay_messages.specs.declared.member.Field.{Field}

chosen : {A B : Type 0} (f : A → B) (o : Ordering) (a b c : A) → f (match_ordering o a b c) ≡ match_ordering o (f a) (f b) (f c)
chosen f Less a b c = refl
chosen f Equal a b c = refl
chosen f Greater a b c = refl

pub kept-put : (k : List ℕ) (d : Data) (ms : Members) → kept_members (put k d ms) ≡ put k (kept d) (kept_members ms)
kept-put k d no_members = refl
kept-put k d (member l e ms) =
    let o = slice_cmp nat_cmp k l in
    chosen kept_members o (member k d (member l e ms)) (member l d ms) (member l e (put k d ms))
    ∙ ap (λ rest. match_ordering o (member k (kept d) (member l (kept e) (kept_members ms))) (member l (kept d) (kept_members ms)) (member l (kept e) rest)) (kept-put k d ms)

kept-get : (k : List ℕ) (ms : Members) → get_member k (kept_members ms) ≡ option_map kept (get_member k ms)
kept-get k no_members = refl
kept-get k (member l e ms) =
    let o = slice_cmp nat_cmp k l in
    ap (λ rest. match_ordering o rest (Some (kept e)) rest) (kept-get k ms) ∙ sym (chosen (option_map kept) o (get_member k ms) (Some e) (get_member k ms))

kept-len : (ms : Members) → members_len (kept_members ms) ≡ members_len ms
kept-len no_members = refl
kept-len (member l e ms) = ap suc (kept-len ms)

text_of_number : (x : Num) → as_str (kept_number x) ≡ None
text_of_number (unsigned n) = refl
text_of_number (negative z) = refl
text_of_number (float x) = refl

text_of : (d : Data) → as_str (kept d) ≡ as_str d
text_of null = refl
text_of (boolean b) = refl
text_of (number x) = text_of_number x
text_of (string s) = refl
text_of (array ds) = refl
text_of (object ms) = refl

whole_of_number : (x : Num) → option_and_then as_u64 (as_number (kept_number x)) ≡ as_u64 x
whole_of_number (unsigned n) = refl
whole_of_number (negative z) = refl
whole_of_number (float x) = refl

whole_of : (d : Data) → option_and_then as_u64 (as_number (kept d)) ≡ option_and_then as_u64 (as_number d)
whole_of null = refl
whole_of (boolean b) = refl
whole_of (number x) = whole_of_number x
whole_of (string s) = refl
whole_of (array ds) = refl
whole_of (object ms) = refl

text_kept : (o : Option Data) → option_and_then as_str (option_map kept o) ≡ option_and_then as_str o
text_kept None = refl
text_kept (Some d) = text_of d

whole_kept : (o : Option Data) → option_and_then as_u64 (option_and_then as_number (option_map kept o)) ≡ option_and_then as_u64 (option_and_then as_number o)
whole_kept None = refl
whole_kept (Some d) = whole_of d

any_kept : (o : Option Data) → is_some (option_map kept o) ≡ is_some o
any_kept None = refl
any_kept (Some d) = refl

abbrev pick : Members → Option Members → Members
pick ms None = ms
pick ms (Some found) = found

-- ---- What was read is the object of which this was kept.

object_read : (r : Option Data) (ms : Members) → kept_object r ≡ Some ms → (inner : Members) × (r ≡ Some (object inner)) × (kept_members inner ≡ ms)
object_read None ms e = absurd (cc)
object_read (Some null) ms e = absurd (cc)
object_read (Some (boolean b)) ms e = absurd (cc)
object_read (Some (number x)) ms e = absurd (cc)
object_read (Some (string s)) ms e = absurd (cc)
object_read (Some (array ds)) ms e = absurd (cc)
object_read (Some (object inner)) ms e = (inner, refl, ap (pick ms) e)

module _ (r : Option Data) (ms : Members) (e : kept_object r ≡ Some ms) where
  pub is_object_read : true ≡ is_some (as_object (unwrap_or r null))
  is_object_read = let o = object_read r ms e in sym (ap (λ r. is_some (as_object (unwrap_or r null))) o.1)

  pub count_read : members_len ms ≡ member_count (unwrap_or r null)
  count_read = let o = object_read r ms e in ap members_len (sym o.2) ∙ kept-len o.0 ∙ sym (ap (λ r. member_count (unwrap_or r null)) o.1)

  found : (k : List ℕ) → get_member k ms ≡ option_map kept (get k (unwrap_or r null))
  found k =
      let o = object_read r ms e in
      ap (get_member k) (sym o.2) ∙ kept-get k o.0 ∙ sym (ap (λ r. option_map kept (get k (unwrap_or r null))) o.1)

  pub text_read : (k : List ℕ) → option_and_then as_str (get_member k ms) ≡ text_at k (unwrap_or r null)
  text_read k = ap (option_and_then as_str) (found k) ∙ text_kept (get k (unwrap_or r null))

  pub number_read : (k : List ℕ) → option_and_then as_u64 (option_and_then as_number (get_member k ms)) ≡ number_at k (unwrap_or r null)
  number_read k = ap (λ o. option_and_then as_u64 (option_and_then as_number o)) (found k) ∙ whole_kept (get k (unwrap_or r null))

  pub any_read : (k : List ℕ) → is_some (get_member k ms) ≡ is_some (get k (unwrap_or r null))
  any_read k = ap is_some (found k) ∙ any_kept (get k (unwrap_or r null))

-- a field that was found is there
pub found_as : (found : Option Field) (o : Option Data) → option_map field_data found ≡ o → is_some found ≡ is_some o
found_as None o same = ap is_some same
found_as (Some field) o same = ap is_some same
