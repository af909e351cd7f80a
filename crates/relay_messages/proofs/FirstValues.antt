-- Values that come first, and what is skipped with them.
use Rattle.std.proofs.Common.{◌≡◌, ◌==◌, ℕ, zero, suc, ◌<◌, ◌-◌, List, [], ◌∷◌, length, take, drop, slice_index, Bool, true, false, Option, Some, None, option_map, refl, ap, ◌∙◌, arith}
use Rattle.std.proofs.Math.Seq.{take-length}
use Rattle.fast_float.specs.Text.{Parts, scan}
use Rattle.json.specs.Token.{Token}
use Rattle.json.specs.Json.{items, members, parse_map, value}
use Rattle.json.proofs.Grammar.{left, left-parse_map, left_none, left_some, skip_value-shorter, value_is}
use Rattle.serde_json.specs.Data.{Data, Num, array, boolean, null, number, object, string, unsigned, negative, float, no_members}
use Rattle.serde_json.specs.Find.{as_object, as_u64}
use Rattle.serde_json.specs.Read.{converted, number_from, number_of, of_items, of_json, of_members}
use Rattle.relay_messages.proofs.Converted.{array_converted}
use Rattle.relay_messages.proofs.PlainReading.{object_read, read_first}
use Rattle.relay_messages.specs.Beginnings.{Begins, IsOther, opened_by, opening}
use Rattle.relay_messages.specs.KeptValues.{kept}
use Rattle.relay_messages.specs.Passing.{IsFirst, behind, begun_passed, opened_passed, passed, rest_passed}
use Rattle.relay_messages.specs.declared.passing.Nest.{Nest}
use Rattle.relay_messages.specs.declared.passing.Nest.TheVariants.{Array, Object}
use Rattle.relay_messages.specs.declared.passing.Beginning.{Beginning}
use Rattle.relay_messages.specs.declared.passing.Beginning.TheVariants.{Text, Whole, Other, Opens}

-- ---- One value that ends where it begins.

pub first_string : (ts r : List Token) (s : List ℕ) → ts ≡ Token.string s ∷ r → (depth : ℕ) → IsFirst (string s) depth ts r
first_string ts r s is depth = ap (converted of_json) (ap (value depth) is ∙ value_is depth (Token.string s ∷ r))

first_number : (ts r : List Token) (s : List ℕ) (x : Num) → ts ≡ Token.number s ∷ r → number_of s ≡ Some x → (depth : ℕ) → IsFirst (number x) depth ts r
first_number ts r s x is read depth = ap (converted of_json) (ap (value depth) is ∙ value_is depth (Token.number s ∷ r)) ∙ rw read

first_boolean : (ts r : List Token) (b : Bool) → ts ≡ Token.boolean b ∷ r → (depth : ℕ) → IsFirst (boolean b) depth ts r
first_boolean ts r b is depth = ap (converted of_json) (ap (value depth) is ∙ value_is depth (Token.boolean b ∷ r))

first_null : (ts r : List Token) → ts ≡ Token.null ∷ r → (depth : ℕ) → IsFirst null depth ts r
first_null ts r is depth = ap (converted of_json) (ap (value depth) is ∙ value_is depth (Token.null ∷ r))

-- ---- No value.

none_of_number : (ts r : List Token) (s : List ℕ) (depth : ℕ) → ts ≡ Token.number s ∷ r → number_of s ≡ None → converted of_json (value depth ts) ≡ None
none_of_number ts r s depth is refused = ap (converted of_json) (ap (value depth) is ∙ value_is depth (Token.number s ∷ r)) ∙ rw refused

pub none_of_nothing : (ts : List Token) (depth : ℕ) → ts ≡ [] → converted of_json (value depth ts) ≡ None
none_of_nothing ts depth is = ap (converted of_json) (ap (value depth) is ∙ value_is depth [])

-- ---- An array and an object.

array_opens : (depth : ℕ) (ts r : List Token) → ts ≡ Token.begin_array ∷ r
    → converted of_json (value (suc depth) ts) ≡ parse_map array (converted of_items (items (value depth) (length r) r))
unfolding value
array_opens depth ts r is = ap (λ ts. converted of_json (value (suc depth) ts)) is ∙ array_converted (items (value depth) (length r) r)

pub object_opens : (depth : ℕ) (ts r : List Token) → ts ≡ Token.begin_object ∷ r
    → converted of_json (value (suc depth) ts) ≡ parse_map object (converted (λ ms. of_members ms no_members) (members (value depth) (length r) r))
unfolding value
object_opens depth ts r is = ap (λ ts. converted of_json (value (suc depth) ts)) is ∙ object_read (members (value depth) (length r) r)

too_deep : (nest : Nest) (ts r : List Token) → ts ≡ opening nest ∷ r → converted of_json (value 0 ts) ≡ None
unfolding value
too_deep Array ts r is = ap (λ ts. converted of_json (value 0 ts)) is
too_deep Object ts r is = ap (λ ts. converted of_json (value 0 ts)) is

-- what opens is skipped by its rest
opens_passed : (nest : Nest) (depth : ℕ) (ts r : List Token) → ts ≡ opening nest ∷ r → passed depth ts ≡ opened_passed nest depth r
opens_passed nest zero ts r is = ap behind (too_deep nest ts r is)
opens_passed Array (suc depth) ts r is = ap behind (array_opens depth ts r is) ∙ left-parse_map array _
opens_passed Object (suc depth) ts r is = ap behind (object_opens depth ts r is) ∙ left-parse_map object _

-- an array that is skipped is not an object
pub array_read : (depth : ℕ) (ts r s : List Token) → ts ≡ Token.begin_array ∷ r → rest_passed Array depth r ≡ Some s
    → (d : Data) × (converted of_json (value (suc depth) ts) ≡ Some (d, s)) × (as_object d ≡ None) × (kept d ≡ null)
array_read depth ts r s is read =
    let ds = left_some _ s read in (array ds.0, array_opens depth ts r is ∙ ap (parse_map array) ds.1, refl, refl)

-- of what opens and is skipped nothing is kept
pub nest_read : (nest : Nest) (depth : ℕ) (ts r s : List Token) → ts ≡ opening nest ∷ r → rest_passed nest depth r ≡ Some s
    → (d : Data) × (converted of_json (value (suc depth) ts) ≡ Some (d, s)) × (kept d ≡ null)
nest_read Array depth ts r s is read = let d = array_read depth ts r s is read in (d.0, d.1, d.3)
nest_read Object depth ts r s is read =
    let ms = left_some _ s read in (object ms.0, object_opens depth ts r is ∙ ap (parse_map object) ms.1, refl)

pub nest_refused : (nest : Nest) (depth : ℕ) (ts r : List Token) → ts ≡ opening nest ∷ r → rest_passed nest depth r ≡ None
    → converted of_json (value (suc depth) ts) ≡ None
nest_refused Array depth ts r is none = array_opens depth ts r is ∙ ap (parse_map array) (left_none _ none)
nest_refused Object depth ts r is none = object_opens depth ts r is ∙ ap (parse_map object) (left_none _ none)

-- a value takes at least one token
pub first_shorter : (depth : ℕ) (ts r : List Token) (d : Data) → IsFirst d depth ts r → length r < length ts
first_shorter depth ts r d is = let j = read_first of_json (value depth ts) d r is in skip_value-shorter depth ts r (ap left j.1)

-- a value that begins is skipped
pub begins_passed : (b : Beginning) (ts r : List Token) → Begins b ts r → (depth : ℕ) → passed depth ts ≡ begun_passed (opened_by b) depth r
begins_passed (Text text) ts r is depth = ap behind (is depth)
begins_passed (Whole n) ts r is depth = ap behind (is depth)
begins_passed Other ts r is depth = ap behind (is.first depth)
begins_passed (Opens nest) ts r is depth = opens_passed nest depth ts r is

-- ---- The numbers of texts.

whole_number : (x : Num) (n : ℕ) → as_u64 x ≡ Some n → x ≡ unsigned n
whole_number (unsigned m) n e = cc
whole_number (negative z) n e = absurd (cc)
whole_number (float f) n e = absurd (cc)

-- a number was read, and this is its unsigned whole one
number_read : (o : Option Num) (found : Option ℕ) → Some found ≡ option_map as_u64 o → (x : Num) × (o ≡ Some x) × (as_u64 x ≡ found)
number_read None found e = absurd (cc)
number_read (Some x) found e = (x, refl, cc)

whole_read : (o : Option Num) (n : ℕ) → Some (Some n) ≡ option_map as_u64 o → o ≡ Some (unsigned n)
whole_read o n e = let x = number_read o (Some n) e in x.1 ∙ ap Some (whole_number x.0 n x.2)

none_read : (o : Option Num) → None ≡ option_map as_u64 o → o ≡ None
none_read None e = refl
none_read (Some x) e = absurd (cc)

-- ---- What a number's text means at the beginning of a value.

none_kept : (x : Num) → as_u64 x ≡ None → kept (number x) ≡ null
none_kept (unsigned n) none = absurd (cc)
none_kept (negative z) none = refl
none_kept (float x) none = refl

module _ (ts r : List Token) (s : List ℕ) (is : ts ≡ Token.number s ∷ r) where
  pub first_whole : (n : ℕ) → Some (Some n) ≡ option_map as_u64 (number_of s) → (depth : ℕ) → IsFirst (number (unsigned n)) depth ts r
  first_whole n e = first_number ts r s (unsigned n) is (whole_read (number_of s) n e)

  pub other_number : Some None ≡ option_map as_u64 (number_of s) → IsOther ts r
  other_number e =
      let x = number_read (number_of s) None e in
      record { itself = number x.0; no_object = refl; nothing_kept = none_kept x.0 x.2; first = first_number ts r s x.0 is x.1 }

  pub no_number : None ≡ option_map as_u64 (number_of s) → (depth : ℕ) → converted of_json (value depth ts) ≡ None
  no_number e depth = none_of_number ts r s depth is (none_read (number_of s) e)

pub other_boolean : (ts r : List Token) (b : Bool) → ts ≡ Token.boolean b ∷ r → IsOther ts r
other_boolean ts r b is = record { itself = boolean b; no_object = refl; nothing_kept = refl; first = first_boolean ts r b is }

pub other_null : (ts r : List Token) → ts ≡ Token.null ∷ r → IsOther ts r
other_null ts r is = record { itself = null; no_object = refl; nothing_kept = refl; first = first_null ts r is }

-- ---- A number's text, with its sign or without one.

behind_first : (bytes : List ℕ) → take (length bytes - 1) (drop 1 bytes) ≡ drop 1 bytes
behind_first [] = refl
behind_first (b ∷ bytes) =
    let left : length (b ∷ bytes) - 1 ≡ length bytes = omega arith in
    ap (λ n. take n bytes) left ∙ take-length bytes

pub negative_text : (text bytes : List ℕ) (p : Parts) → bytes ≡ text → (slice_index bytes 0 == 45) ≡ true
    → p ≡ scan (take (length bytes - 1) (drop 1 bytes)) → number_from true p ≡ number_of text
unfolding number_of
negative_text text bytes p same minus parts =
    let read : number_from true (scan (drop 1 bytes)) ≡ number_of bytes = rw minus in
    ap (number_from true) (parts ∙ ap scan (behind_first bytes)) ∙ read ∙ ap number_of same

pub unsigned_text : (text bytes : List ℕ) (p : Parts) → bytes ≡ text → (slice_index bytes 0 == 45) ≡ false → p ≡ scan bytes
    → number_from false p ≡ number_of text
unfolding number_of
unsigned_text text bytes p same plain parts =
    let read : number_from false (scan bytes) ≡ number_of bytes = rw plain in
    ap (number_from false) parts ∙ read ∙ ap number_of same
