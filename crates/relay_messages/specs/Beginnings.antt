-- How a value begins: every value but an array or an object ends where it begins, however deep values may nest.
use Rattle.std.specs.Prelude.{ℕ, ◌≡◌, List, ◌∷◌, Option, Some, None}
use Rattle.json.specs.Token.{Token}
use Rattle.serde_json.specs.Data.{Data, null, number, string, unsigned}
use Rattle.serde_json.specs.Find.{as_object}
use Rattle.relay_messages.specs.declared.passing.Nest.{Nest}
use Rattle.relay_messages.specs.declared.passing.Nest.TheVariants.{Array, Object}
use Rattle.relay_messages.specs.declared.passing.Beginning.{Beginning}
use Rattle.relay_messages.specs.declared.passing.Beginning.TheVariants.{Text, Whole, Other, Opens}
use Rattle.relay_messages.specs.KeptValues.{kept}
use Rattle.relay_messages.specs.Passing.{IsFirst}

-- a value that ends where it begins, of which nothing is kept
pub record IsOther (ts r : List Token) : Type 0 where
  pub itself : Data
  pub no_object : as_object itself ≡ None
  pub nothing_kept : kept itself ≡ null
  pub first : (depth : ℕ) → IsFirst itself depth ts r

-- the token that opens it
abbrev pub opening : Nest → Token
opening Array = Token.begin_array
opening Object = Token.begin_object

-- the tokens begin with a value that begins in this way, and these are left of them
abbrev pub Begins : Beginning → List Token → List Token → Type 0
Begins (Text text) ts r = (depth : ℕ) → IsFirst (string text.now) depth ts r
Begins (Whole n) ts r = (depth : ℕ) → IsFirst (number (unsigned n)) depth ts r
Begins Other ts r = IsOther ts r
Begins (Opens nest) ts r = ts ≡ opening nest ∷ r

-- what opens
abbrev pub opened_by : Beginning → Option Nest
opened_by (Text text) = None
opened_by (Whole n) = None
opened_by Other = None
opened_by (Opens nest) = Some nest
