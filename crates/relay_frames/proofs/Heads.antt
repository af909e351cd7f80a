-- A head that has yet to come is shorter than the longest head.
use Rattle.std.proofs.Common.{◌≡◌, ◌≢◌, ℕ, ◌+◌, ◌%◌, ◌<◌, ◌≤◌, Bool, true, false, cond, ◌==◌, ◌||◌, nat_lt, nat_le, nat_eq, List, length, take, drop, None, Some, Result, Ok, Err, refl, arith, length-drop, inl, inr}
use Rattle.std.specs.Prelude.{◌⊎◌, replicate, slice_index}
use Rattle.std.specs.Int.{w16, w64, from_be_bytes}
use Rattle.std.specs.List.{starts_with}
use Rattle.std.proofs.lemmas.Bool.Decides.{nat_tests}
use Rattle.websocket.specs.declared.error.ProtocolError.{ProtocolError}
use Rattle.websocket.specs.declared.error.ProtocolError.TheVariants.{InvalidLength}
use Rattle.websocket.specs.declared.protocol.frame.coding.OpCode.{OpCode}
use Rattle.websocket.specs.declared.protocol.frame.header.FrameHeader.{FrameHeader}
use Rattle.websocket.specs.OpCode.{parse_opcode}
use Rattle.websocket.specs.FrameHeader.{Decoded, is_set, extended_len, header_from, decode_length, decode_mask, decode_after_opcode, decode_header}

-- one of the two is what was chosen
chosen : {A : Type 0} (b : Bool) (x y z : A) → cond b x y ≡ z → ((b ≡ true) × (x ≡ z)) ⊎ ((b ≡ false) × (y ≡ z))
chosen true x y z is = inl (refl, is)
chosen false x y z is = inr (refl, is)

below : (a b : ℕ) → nat_lt a b ≡ true → a < b
below a b is = grind (arith, nat_tests)

zero_short : (n : ℕ) → (n == 0) ≡ true → n < 14
zero_short n is = grind (arith, nat_tests)

-- more bytes are waited for if there are too few, and only then
too_few : {A : Type 0} (n k : ℕ) (y : Decoded A) → y ≢ Ok None → cond (nat_lt n k) (Ok None) y ≡ Ok None → n < k
too_few n k y some is =
    elim (chosen (nat_lt n k) (Ok None) y (Ok None) is) [
      | inl p ↦ below n k p.0
      | inr p ↦ absurd (some p.1)
    ]

never : {A : Type 0} (b : Bool) (x y : Decoded A) → x ≢ Ok None → y ≢ Ok None → cond b x y ≢ Ok None
never true x y p q is = p is
never false x y p q is = q is

-- the extended length in two bytes, and in eight
abbrev in_two : List ℕ → Decoded ℕ
in_two rest = cond (nat_lt (from_be_bytes w16 rest) 126) (Err InvalidLength) (Ok (Some (from_be_bytes w16 rest)))

two_short : (rest : List ℕ) → cond (nat_lt (length rest) 2) (Ok None) (in_two rest) ≡ Ok None → length rest < 8
two_short rest is =
    let some : in_two rest ≢ Ok None = never (nat_lt (from_be_bytes w16 rest) 126) (Err InvalidLength) (Ok (Some (from_be_bytes w16 rest))) (λ k. cc k) (λ k. cc k) in
    omega (arith, too_few (length rest) 2 (in_two rest) some is)

abbrev in_eight : List ℕ → Decoded ℕ
in_eight rest = cond (nat_lt (length rest) 8) (Ok None) (Ok (Some (from_be_bytes w64 rest)))

eight_short : (rest : List ℕ) (b : Bool) → cond b (Err InvalidLength) (in_eight rest) ≡ Ok None → length rest < 8
eight_short rest true is = absurd (cc is)
eight_short rest false is = too_few (length rest) 8 (Ok (Some (from_be_bytes w64 rest))) (λ k. cc k) is

long_short : (rest : List ℕ) (b c : Bool) (n : ℕ) → cond b (cond c (Err InvalidLength) (in_eight rest)) (Ok (Some n)) ≡ Ok None → length rest < 8
long_short rest true c n is = eight_short rest c is
long_short rest false c n is = absurd (cc is)

either_short : (rest : List ℕ) (a b c : Bool) (n : ℕ)
    → cond a (cond (nat_lt (length rest) 2) (Ok None) (in_two rest)) (cond b (cond c (Err InvalidLength) (in_eight rest)) (Ok (Some n))) ≡ Ok None → length rest < 8
either_short rest true b c n is = two_short rest is
either_short rest false b c n is = long_short rest b c n is

length_short : (bits : ℕ) (rest : List ℕ) → decode_length bits rest ≡ Ok None → length rest < 8
length_short bits rest is =
    either_short rest (bits == 126) (bits == 127) (starts_with nat_eq rest (replicate 6 0) || nat_le 128 (slice_index rest 0)) bits is

pub extended_short : (n : ℕ) → extended_len n ≤ 8
extended_short n =
    elim (nat_lt n 126) as (λ b. cond b 0 (cond (nat_lt n 65536) 2 8) ≤ 8) [
      | true ↦ omega arith
      | false ↦ elim (nat_lt n 65536) as (λ b. cond b 2 8 ≤ 8) [ true ↦ omega arith | false ↦ omega arith ]
    ]

key_short : (b : Bool) → cond b 4 0 ≤ 4
key_short true = omega arith
key_short false = omega arith

pub header_len_short : (n : ℕ) (b : Bool) → 2 + extended_len n + cond b 4 0 ≤ 14
header_len_short n b = omega (arith, extended_short n, key_short b)

masked_short : (bs : List ℕ) (b : Bool) (n : ℕ) (x y : FrameHeader × ℕ)
    → ◌≡◌ {A = Decoded (FrameHeader × ℕ)} (cond b (cond (nat_lt (length bs) (2 + extended_len n + 4)) (Ok None) (Ok (Some x))) (Ok (Some y))) (Ok None) → length bs < 14
masked_short bs true n x y is =
    omega (arith, extended_short n, too_few (length bs) (2 + extended_len n + 4) (Ok (Some x)) (λ k. cc k) is)
masked_short bs false n x y is = absurd (cc is)

mask_short : (bs : List ℕ) (op : OpCode) (d : Decoded ℕ) → decode_length (slice_index bs 1 % 128) (drop 2 bs) ≡ d → decode_mask bs op d ≡ Ok None → length bs < 14
mask_short bs op (Err e) found is = absurd (cc is)
mask_short bs op (Ok None) found is = omega (arith, length_short (slice_index bs 1 % 128) (drop 2 bs) found, length-drop 2 bs)
mask_short bs op (Ok (Some n)) found is =
    masked_short bs (is_set (slice_index bs 1) 128) n
    (header_from (slice_index bs 0) op (Some (take 4 (drop (2 + extended_len n) bs))), n) (header_from (slice_index bs 0) op None, n) is

second_short : (bs : List ℕ) (y : Decoded (FrameHeader × ℕ)) → cond (nat_lt (length bs) 2) (Ok None) y ≡ Ok None → (y ≡ Ok None → length bs < 14) → length bs < 14
second_short bs y is rest =
    elim (chosen (nat_lt (length bs) 2) (Ok None) y (Ok None) is) [
      | inl p ↦ omega (arith, below (length bs) 2 p.0)
      | inr p ↦ rest p.1
    ]

opcode_short : (bs : List ℕ) (r : Result OpCode ProtocolError) → decode_after_opcode bs r ≡ Ok None → length bs < 14
opcode_short bs (Err e) is = absurd (cc is)
opcode_short bs (Ok op) is =
    let d = decode_length (slice_index bs 1 % 128) (drop 2 bs) in
    second_short bs (decode_mask bs op d) is (mask_short bs op d refl)

pub header_short : (bs : List ℕ) → decode_header bs ≡ Ok None → length bs < 14
unfolding decode_header
header_short bs is =
    elim (chosen (length bs == 0) (Ok None) (decode_after_opcode bs (parse_opcode (slice_index bs 0 % 16))) (Ok None) is) [
      | inl p ↦ zero_short (length bs) p.0
      | inr p ↦ opcode_short bs (parse_opcode (slice_index bs 0 % 16)) p.1
    ]
