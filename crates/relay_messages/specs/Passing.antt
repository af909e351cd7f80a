-- Values that are read, but of which nothing is kept except what follows them.
use Rattle.std.specs.Prelude.{ℕ, zero, suc, ◌≡◌, ◌-◌, List, [], ◌∷◌, length, Option, Some, None, option_map, option_and_then}
use Rattle.json.specs.Token.{Token}
use Rattle.json.specs.Json.{items, members, value}
use Rattle.serde_json.specs.Data.{Data, no_members}
use Rattle.serde_json.specs.Read.{converted, of_items, of_json, of_members}
use Rattle.relay_messages.specs.declared.passing.Nest.{Nest}
use Rattle.relay_messages.specs.declared.passing.Nest.TheVariants.{Array, Object}

-- this value comes first, and these tokens follow it
abbrev pub IsFirst : Data → ℕ → List Token → List Token → Type 0
IsFirst d depth ts r = converted of_json (value depth ts) ≡ Some (d, r)

-- what follows what was read, if that was read
abbrev pub behind : {A : Type 0} → Option (A × List Token) → Option (List Token)
behind read = option_map (λ p. p.1) read

-- what follows the value that comes first, whose arrays and objects may nest this deep
abbrev pub passed : ℕ → List Token → Option (List Token)
passed depth ts = behind (converted of_json (value depth ts))

-- what follows the rest of an array or an object that was opened, within which values may nest this deep
abbrev pub rest_passed : Nest → ℕ → List Token → Option (List Token)
rest_passed Array depth ts = behind (converted of_items (items (value depth) (length ts) ts))
rest_passed Object depth ts = behind (converted (λ ms. of_members ms no_members) (members (value depth) (length ts) ts))

-- the same for one that was opened where values may nest this deep
abbrev pub opened_passed : Nest → ℕ → List Token → Option (List Token)
opened_passed nest zero ts = None
opened_passed nest (suc depth) ts = rest_passed nest depth ts

-- what follows a value that was begun where values may nest this deep, and that opened this
abbrev pub begun_passed : Option Nest → ℕ → List Token → Option (List Token)
begun_passed None depth ts = Some ts
begun_passed (Some nest) depth ts = opened_passed nest depth ts

-- what follows arrays and objects that are open, the outermost first, if this follows what is in the innermost
abbrev pub outer_passed : ℕ → List Nest → Option (List Token) → Option (List Token)
outer_passed depth [] inner = inner
outer_passed depth (outermost ∷ outer) inner = option_and_then (rest_passed outermost depth) (outer_passed (depth - 1) outer inner)

-- what follows these and the innermost, of which these tokens are left
abbrev pub still_passed : ℕ → List Nest → Nest → List Token → Option (List Token)
still_passed depth outer innermost ts = outer_passed depth outer (rest_passed innermost (depth - length outer) ts)
