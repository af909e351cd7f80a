-- A compact object is the print of its tokens, with gaps before them, which are read back, and so it represents its members.
use Rattle.std.proofs.Common.{◌≡◌, ℕ, ◌-◌, ◌≤◌, Bool, true, false, List, [], ◌∷◌, ◌++◌, length, Some, lit<, refl, sym, ap, ◌∙◌, subst, arith, decimal}
use Rattle.json.specs.Token.{Token}
use Rattle.json.specs.Json.{members, parse_map, value}
use Rattle.json.specs.Lex.{tokens}
use Rattle.json.specs.Print.{ArePrintable, IsPrintable, ends, separator, token_text}
use Rattle.json.specs.Spaced.{print_spaced}
use Rattle.json.proofs.Grammar.{value-begin_object, value_is}
use Rattle.json.proofs.Printed.Decimals.{IsNumber-decimal}
use Rattle.json.proofs.Printed.Tokens.{tokens-print_spaced}
use Rattle.serde_json.proofs.Numbers.{number_of-decimal}
use Rattle.serde_json.specs.Data.{Members, no_members, object, put}
use Rattle.serde_json.specs.Read.{converted, of_json, of_members, read}
use Rattle.relay_messages.proofs.Converted.{whole}
use Rattle.relay_messages.proofs.PlainReading.{member_read, members_over, object_read, whole_read}
use Rattle.relay_messages.specs.Compact.{AreWithin64Bits, IsClosed, IsMember, IsSpaced, IsWithin64Bits, field_token, member_tokens}
use Rattle.relay_messages.specs.Members.{field_data, members_in, with_all}
use Rattle.relay_messages.specs.declared.member.Field.{Field}
use Rattle.relay_messages.specs.declared.member.Field.TheVariants.{Text, Number, Other}
use Rattle.relay_messages.specs.declared.member.Member.{Member}

-- ---- One more member.

pub member_tokens-push : (ms : List Member) (m : Member) (ts : List Token)
    → member_tokens (ms ++ m ∷ []) ts ≡ member_tokens ms (Token.key m.key.now ∷ field_token m.field ∷ ts)
member_tokens-push [] m ts = refl
member_tokens-push (n ∷ ms) m ts = ap (λ us. Token.key n.key.now ∷ field_token n.field ∷ us) (member_tokens-push ms m ts)

pub AreWithin64Bits-push : (ms : List Member) (m : Member) → AreWithin64Bits ms → IsWithin64Bits m.field → AreWithin64Bits (ms ++ m ∷ [])
AreWithin64Bits-push [] m all more = (more, tt)
AreWithin64Bits-push (n ∷ ms) m all more = (all.0, AreWithin64Bits-push ms m all.1 more)

-- ---- What is written.

field_ends : (field : Field) → ends (field_token field) ≡ true
field_ends (Text text) = refl
field_ends (Number n) = refl
field_ends Other = refl

-- behind a member follow the tokens that the rest is
member_then : (m : Member) (after_value : Bool) (text rest : List ℕ) (ts : List Token) → IsMember m text rest → IsSpaced true rest ts
    → IsSpaced after_value (separator after_value (Token.key m.key.now) ++ text) (Token.key m.key.now ∷ field_token m.field ∷ ts)
unfolding print_spaced
member_then m after_value text rest ts is more =
    let key = Token.key m.key.now in
    let value = field_token m.field in
    let behind : rest ≡ print_spaced (ends value) more.spaced =
    more.written ∙ ap (λ after. print_spaced after more.spaced) (sym (field_ends m.field)) in
    record {
      spaced = (is.key_behind.gap, key) ∷ (is.value_behind.gap, value) ∷ more.spaced;
      gaps = (is.key_behind.is_gap, (is.value_behind.is_gap, more.gaps));
      tokens = ap (λ us. key ∷ value ∷ us) more.tokens;
      written = ap (λ bs. separator after_value key ++ bs)
          (is.key_behind.written ∙ ap (λ bs. is.key_behind.gap ++ (token_text key ++ bs))
          (is.value_behind.written ∙ ap (λ bs. is.value_behind.gap ++ (token_text value ++ bs)) behind));
    }

-- the first member stands behind the brace
pub first_written : (m : Member) (text bytes rest : List ℕ) (ts : List Token) → text ≡ 123 ∷ bytes → IsMember m bytes rest → IsSpaced true rest ts
    → IsSpaced false text (Token.begin_object ∷ member_tokens (m ∷ []) ts)
unfolding print_spaced
first_written m text bytes rest ts opened is more =
    let first = member_then m false bytes rest ts is more in
    record {
      spaced = ([], Token.begin_object) ∷ first.spaced;
      gaps = (tt, first.gaps);
      tokens = ap (λ us. Token.begin_object ∷ us) first.tokens;
      written = opened ∙ ap (λ bs. 123 ∷ bs) first.written;
    }

-- each of the others stands behind a comma
pub next_written : (m : Member) (before bytes rest : List ℕ) (ts : List Token) → before ≡ 44 ∷ bytes → IsMember m bytes rest → IsSpaced true rest ts
    → IsSpaced true before (Token.key m.key.now ∷ field_token m.field ∷ ts)
next_written m before bytes rest ts divided is more =
    subst (λ bs. IsSpaced true bs (Token.key m.key.now ∷ field_token m.field ∷ ts)) (sym divided) (member_then m true bytes rest ts is more)

-- at the end stands the other brace
pub closed : (before : List ℕ) → IsClosed before → IsSpaced true before (Token.end_object ∷ [])
unfolding print_spaced
closed before is = record {
  spaced = (is.gap, Token.end_object) ∷ [];
  gaps = (is.is_gap, tt);
  tokens = refl;
  written = is.written;
}

-- ---- All tokens can be printed.

field_printable : (field : Field) → IsWithin64Bits field → IsPrintable (field_token field)
field_printable (Text text) within = tt
field_printable (Number n) within = IsNumber-decimal n within
field_printable Other within = tt

members_printable : (ms : List Member) (ts : List Token) → AreWithin64Bits ms → ArePrintable ts → ArePrintable (member_tokens ms ts)
unfolding ArePrintable
members_printable [] ts all last = last
members_printable (m ∷ ms) ts all last = (tt, (field_printable m.field all.0, members_printable ms ts all.1 last))

all_printable : (ms : List Member) → AreWithin64Bits ms → ArePrintable (Token.begin_object ∷ member_tokens ms (Token.end_object ∷ []))
unfolding ArePrintable
all_printable ms all = (tt, members_printable ms (Token.end_object ∷ []) all (tt, tt))

-- ---- What is read.

field_read : (field : Field) (ts : List Token) → IsWithin64Bits field → converted of_json (value 126 (field_token field ∷ ts)) ≡ Some (field_data field, ts)
field_read (Text text) ts within = ap (converted of_json) (value_is 126 (Token.string text.now ∷ ts))
field_read (Number n) ts within = ap (converted of_json) (value_is 126 (Token.number (decimal n) ∷ ts)) ∙ rw (number_of-decimal n within) refl
field_read Other ts within = ap (converted of_json) (value_is 126 (Token.null ∷ ts))

members_read : (ms : List Member) (found : Members) (n : ℕ) → AreWithin64Bits ms → length (member_tokens ms (Token.end_object ∷ [])) ≤ n
    → converted (λ all. of_members all found) (members (value 126) n (member_tokens ms (Token.end_object ∷ []))) ≡ Some (with_all found ms, [])
members_read [] found n all enough = members_over (value 126) found n (Token.end_object ∷ []) [] enough refl
members_read (m ∷ ms) found n all enough =
    let left = member_tokens ms (Token.end_object ∷ []) in
    let d = field_data m.field in
    member_read (value 126) found n m.key.now (Token.key m.key.now ∷ field_token m.field ∷ left) (field_token m.field ∷ left) left d (omega (arith, enough)) refl
    (field_read m.field left all.0)
    ∙ members_read ms (put m.key.now d found) (n - 1) all.1 (omega (arith, enough))

pub text_read : (text : List ℕ) (ms : List Member) → AreWithin64Bits ms → IsSpaced false text (Token.begin_object ∷ member_tokens ms (Token.end_object ∷ []))
    → read text ≡ Some (object (members_in ms))
text_read text ms all is =
    let rest = member_tokens ms (Token.end_object ∷ []) in
    let ts = Token.begin_object ∷ rest in
    let lexed : tokens text ≡ ts =
    ap tokens is.written ∙ tokens-print_spaced is.spaced is.gaps (subst ArePrintable (sym is.tokens) (all_printable ms all)) ∙ is.tokens in
    ap (λ us. whole (value 127 us)) lexed
    ∙ whole_read (value 127 ts) (object (members_in ms))
    (ap (converted of_json) (value-begin_object 127 rest (lit< tt)) ∙ object_read (members (value 126) (length rest) rest)
    ∙ ap (parse_map object) (members_read ms no_members (length rest) all (omega arith)))
