-- Compact objects: the tokens of their members, which are written without escapes, and without white space but for gaps before tokens.
use Rattle.std.specs.Prelude.{ℕ, ◌≡◌, ◌≢◌, ◌≤◌, ◌<◌, ◌^◌, Bool, List, [], ◌∷◌, ◌++◌, decimal, map, ⊤}
use Rattle.json.specs.Token.{Token}
use Rattle.json.specs.Print.{token_text}
use Rattle.json.specs.Spaced.{AreGaps, IsGap, print_spaced}
use Rattle.relay_messages.specs.declared.member.Field.{Field}
use Rattle.relay_messages.specs.declared.member.Field.TheVariants.{Text, Number, Other}
use Rattle.relay_messages.specs.declared.member.Member.{Member}

-- no control character, quotation mark or backslash
pub record IsPlainByte (b : ℕ) : Type 0 where
  pub no_control : 32 ≤ b
  pub no_quotation_mark : b ≢ 34
  pub no_backslash : b ≢ 92

abbrev pub field_token : Field → Token
field_token (Text text) = Token.string text.now
field_token (Number n) = Token.number (decimal n)
field_token Other = Token.null

-- a number fits 64 bits
abbrev pub IsWithin64Bits : Field → Type 0
IsWithin64Bits (Text text) = ⊤
IsWithin64Bits (Number n) = n < 2 ^ 64
IsWithin64Bits Other = ⊤

-- the text is this field and then the rest
pub record IsField (field : Field) (text rest : List ℕ) : Type 0 where
  pub within : IsWithin64Bits field
  pub written : text ≡ token_text (field_token field) ++ rest

-- the text is a gap and then the rest
pub record IsBehindGap (text rest : List ℕ) : Type 0 where
  pub gap : List ℕ
  pub is_gap : IsGap gap
  pub written : text ≡ gap ++ rest

-- behind a gap, the text is the brace that closes the object
abbrev pub IsClosed : List ℕ → Type 0
IsClosed text = IsBehindGap text (125 ∷ [])

-- the text is this member, with a gap before its key and one before its value, and then the rest
pub record IsMember (m : Member) (text rest : List ℕ) : Type 0 where
  pub within : IsWithin64Bits m.field
  pub value : List ℕ
  pub key_behind : IsBehindGap text (token_text (Token.key m.key.now) ++ value)
  pub value_behind : IsBehindGap value (token_text (field_token m.field) ++ rest)

abbrev pub AreWithin64Bits : List Member → Type 0
AreWithin64Bits [] = ⊤
AreWithin64Bits (m ∷ ms) = IsWithin64Bits m.field × AreWithin64Bits ms

-- the tokens of the members, and these behind them
abbrev pub member_tokens : List Member → List Token → List Token
member_tokens [] ts = ts
member_tokens (m ∷ ms) ts = Token.key m.key.now ∷ field_token m.field ∷ member_tokens ms ts

-- the text is these tokens with gaps before them
pub record IsSpaced (after_value : Bool) (text : List ℕ) (ts : List Token) : Type 0 where
  pub spaced : List (List ℕ × Token)
  pub gaps : AreGaps spaced
  pub tokens : map (λ p. p.1) spaced ≡ ts
  pub written : text ≡ print_spaced after_value spaced

-- the member with this key and this field
abbrev pub member_of : List ℕ → Field → Member
member_of key field = record { key = record { ref_ptr = (0, 0); now = key }; field = field }

-- behind a gap, the text is these bytes, and behind another the rest
pub record IsBehindKey (key text rest : List ℕ) : Type 0 where
  pub value : List ℕ
  pub key_behind : IsBehindGap text (key ++ value)
  pub value_behind : IsBehindGap value rest

-- the text is the member with the key that is written so and with this field, and then the rest
abbrev pub IsMemberOf : List ℕ → Field → List ℕ → List ℕ → Type 0
IsMemberOf key field text rest = (name : List ℕ) → key ≡ token_text (Token.key name) → IsMember (member_of name field) text rest

-- the text is that member and the end of the object
pub record IsLastOf (key : List ℕ) (field : Field) (text : List ℕ) : Type 0 where
  pub end : List ℕ
  pub member : IsMemberOf key field text end
  pub closed : IsClosed end
