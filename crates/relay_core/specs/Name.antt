-- Names of boards.
use Rattle.std.specs.Prelude.{ℕ, ◌-◌, ◌==◌, nat_le, nat_eq, List, ◌++◌, length, replicate, Bool, ◌&&◌, ◌||◌, IsTrue}
use Rattle.std.specs.Cmp.Lexicographic.{pointwise}
use Rattle.std.specs.List.{list_all}

-- A to Z, a to z, 0 to 9, _ or -
abbrev pub is_name_byte : ℕ → Bool
is_name_byte b =
    (nat_le 65 b && nat_le b 90)
    || ((nat_le 97 b && nat_le b 122) || ((nat_le 48 b && nat_le b 57) || ((b == 95) || (b == 45))))

-- 1 to 32 such bytes
abbrev pub is_name : List ℕ → Bool
is_name text = nat_le 1 (length text) && (nat_le (length text) 32 && list_all is_name_byte text)

-- the text is a name
abbrev pub IsName : List ℕ → Type 0
IsName text = IsTrue (is_name text)

-- the text padded with zeros, to 32 bytes for a name
abbrev pub filled : List ℕ → List ℕ
filled text = text ++ replicate (32 - length text) 0

-- whether two names are the same: of equal length, and equal byte by byte
abbrev pub same_name : List ℕ → List ℕ → Bool
same_name a b = (length a == length b) && pointwise nat_eq (filled a) (filled b)
