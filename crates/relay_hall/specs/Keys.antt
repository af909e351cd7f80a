-- Keys: which texts are keys, and when two are the same.
use Rattle.std.specs.Prelude.{ℕ, ◌-◌, nat_le, nat_eq, List, ◌++◌, length, replicate, Bool, false, ◌&&◌, Option, None, Some}
use Rattle.std.specs.Cmp.Lexicographic.{pointwise}
use Rattle.std.specs.List.{list_all}
use Rattle.relay_core.specs.Name.{is_name_byte}

-- 16 to 64 bytes of A to Z, a to z, 0 to 9, _ and -, the bytes that the names of boards may have
abbrev pub is_key : List ℕ → Bool
is_key text = nat_le 16 (length text) && (nat_le (length text) 64 && list_all is_name_byte text)

-- the text padded with zeros, to 64 bytes for a key; no byte of a key is zero
abbrev pub filled : List ℕ → List ℕ
filled text = text ++ replicate (64 - length text) 0

-- whether two keys, padded with zeros, are the same: equal byte by byte
abbrev pub same_key : List ℕ → List ℕ → Bool
same_key a b = pointwise nat_eq a b

-- whether the key is the one that a board was opened with. A connection without a key shares no board, and a board that was opened without
-- one is shared with nobody
abbrev pub is_owner : Option (List ℕ) → Option (List ℕ) → Bool
is_owner None owner = false
is_owner (Some key) None = false
is_owner (Some key) (Some owner) = same_key key owner
