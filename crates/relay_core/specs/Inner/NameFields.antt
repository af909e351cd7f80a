-- The length of a name is read back from its bytes, and names that compare equal are the same.
use Rattle.std.specs.Prelude.{ℕ, ◌-◌, ◌≤◌, ◌≡◌, ◌&&◌, nat_le, nat_eq, true, List, length, take, replicate}
use Rattle.std.specs.Cmp.Lexicographic.{pointwise, same_text}
use Rattle.std.specs.List.{list_all}
use Rattle.std.proofs.Common.{◌∙◌, ap, sym, eqb, arith}
use Rattle.std.proofs.Math.Seq.{take-append_seam}
use Rattle.std.proofs.lemmas.List.{length-append, length-replicate, length-take}
use Rattle.std.proofs.lemmas.Bool.{and_parts, eqb-true, leb-true}
use Rattle.relay_core.specs.Name.{IsName, filled, is_name_byte, same_name}

-- a name has at most 32 bytes
pub is_short : (text : List ℕ) → IsName text → length text ≤ 32
is_short text name =
    let rest = (and_parts (nat_le 1 (length text)) (nat_le (length text) 32 && list_all is_name_byte text) name).1 in
    leb-true (length text) 32 (and_parts (nat_le (length text) 32) (list_all is_name_byte text) rest).0

-- a text of at most 32 bytes is padded to 32
pub length-filled : (text : List ℕ) → length text ≤ 32 → length (filled text) ≡ 32
length-filled text short =
    let whole = length-append text (replicate {A = ℕ} (32 - length text) 0) in
    let zeros = length-replicate {A = ℕ} (32 - length text) 0 in
    omega (arith, whole, zeros)

-- the name in front of the zeros is as long as the length says
pub length-front : (n : ℕ) (bytes : List ℕ) → n ≤ 32 → length (take n bytes) ≤ 32 → bytes ≡ filled (take n bytes)
    → length (take n bytes) ≡ n
length-front n bytes small short rest =
    let all : length bytes ≡ 32 = ap length rest ∙ length-filled (take n bytes) short in
    omega (arith, all, length-take n bytes)

-- the text is read back from before the zeros
pub same_name_is : (a b : List ℕ) → same_name a b ≡ true → a ≡ b
same_name_is a b h =
    let parts = and_parts (eqb (length a) (length b)) (pointwise nat_eq (filled a) (filled b)) h in
    let long : length a ≡ length b = eqb-true (length a) (length b) parts.0 in
    let alike : filled a ≡ filled b = same_text (filled a) (filled b) (sym parts.1) in
    sym (take-append_seam a _) ∙ ap (take (length a)) alike ∙ ap (λ n. take n (filled b)) long ∙ take-append_seam b _
