-- The key that a request names, and what stands for it: RFC 9112 section 3, RFC 3986 section 3.4, FIPS 180-4.
use Rattle.std.specs.Prelude.{ℕ, suc, ◌==◌, ◌&&◌, nat_eq, List, [], ◌∷◌, length, drop, codes, cond, not, Option, None, Some}
use Rattle.std.specs.List.{starts_with, take_while}
use Rattle.hex.specs.Hex.{encode_lower}
use Rattle.sha2.specs.Sha256.{sha256}
use Rattle.relay_hall.specs.Keys.{filled, is_key}

-- the bytes in front of the first of this value, or all; and those behind it, or none
abbrev pub in_front : ℕ → List ℕ → List ℕ
in_front b bytes = take_while (λ x. not (x == b)) bytes

abbrev pub behind_first : ℕ → List ℕ → List ℕ
behind_first b bytes = drop (suc (length (in_front b bytes))) bytes

-- the target of a request: between the first space of its head and the second
abbrev pub target_of : List ℕ → List ℕ
target_of head = in_front 32 (behind_first 32 head)

-- the query of a target: behind its first `?`
abbrev pub query_of : List ℕ → List ℕ
query_of target = behind_first 63 target

-- the fields of a query: what `&` separates
abbrev pub onto_first : ℕ → List (List ℕ) → List (List ℕ)
onto_first b [] = (b ∷ []) ∷ []
onto_first b (field ∷ fields) = (b ∷ field) ∷ fields

unfoldable pub fields_of : List ℕ → List (List ℕ)
fields_of [] = [] ∷ []
fields_of (b ∷ bytes) = cond (b == 38) ([] ∷ fields_of bytes) (onto_first b (fields_of bytes))

-- what stands for a key from then on: its SHA-256 digest in 64 lower-case hexadecimal digits, which are a key themselves
abbrev pub digest_of : List ℕ → List ℕ
digest_of text = encode_lower (sha256 text)

-- the key that a field gives: the digest of what follows `key=`, if that is a key
abbrev pub key_in : List ℕ → Option (List ℕ)
key_in field = cond (starts_with nat_eq field (codes "key=") && is_key (drop 4 field)) (Some (filled (digest_of (drop 4 field)))) None

-- the first key that a field gives
abbrev pub first_of : Option (List ℕ) → Option (List ℕ) → Option (List ℕ)
first_of None later = later
first_of (Some key) later = Some key

abbrev pub first_key : List (List ℕ) → Option (List ℕ)
first_key [] = None
first_key (field ∷ fields) = first_of (key_in field) (first_key fields)

-- the key that a request with this head names
abbrev pub key_of : List ℕ → Option (List ℕ)
key_of head = first_key (fields_of (query_of (target_of head)))
