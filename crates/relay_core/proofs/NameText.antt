-- The bytes of a name are ASCII, and so text.
use Rattle.std.proofs.Common.{◌≡◌, ℕ, ◌<◌, ◌&&◌, nat_le, List, [], ◌∷◌, length, true, zero, suc, arith}
use Rattle.std.specs.List.{list_all}
use Rattle.std.specs.Str.{IsAscii, IsUtf8}
use Rattle.std.proofs.lemmas.Bool.{and_parts}
use Rattle.std.proofs.lemmas.Str.{IsUtf8-from_ascii}
use Rattle.relay_core.specs.Name.{IsName, is_name_byte}

is_name_byte-ascii : (b : ℕ) → is_name_byte b ≡ true → b < 128
is_name_byte-ascii b h = grind arith

IsAscii-from_name_bytes : (text : List ℕ) → list_all is_name_byte text ≡ true → IsAscii text
IsAscii-from_name_bytes [] h i = omega arith
IsAscii-from_name_bytes (b ∷ bs) h zero = is_name_byte-ascii b (and_parts (is_name_byte b) (list_all is_name_byte bs) h).0
IsAscii-from_name_bytes (b ∷ bs) h (suc i) =
    IsAscii-from_name_bytes bs (and_parts (is_name_byte b) (list_all is_name_byte bs) h).1 i

pub name_is_utf8 : (text : List ℕ) → IsName text → IsUtf8 text
name_is_utf8 text name =
    let rest = (and_parts (nat_le 1 (length text)) (nat_le (length text) 32 && list_all is_name_byte text) name).1 in
    IsUtf8-from_ascii text (IsAscii-from_name_bytes text (and_parts (nat_le (length text) 32) (list_all is_name_byte text) rest).1)
