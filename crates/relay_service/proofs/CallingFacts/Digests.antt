-- The digits of a digest are a key.
use Rattle.std.proofs.Common.{◌≡◌, ℕ, zero, suc, ◌-◌, ◌/◌, ◌%◌, ◌<◌, Bool, true, cond, List, [], ◌∷◌, length, take, drop, slice_index, Option, Some, None, is_some, refl, sym, ap, ◌∙◌, true≢false, arith}
use Rattle.std.specs.Prelude.{◌&&◌, codes, nat_eq, nat_le, IfSome}
use Rattle.std.specs.Int.{byte_at, bytes_high_first, to_be_bytes, w32}
use Rattle.std.specs.List.{list_all, All, starts_with}
use Rattle.std.proofs.lemmas.List.{take_rest}
use Rattle.std.proofs.lemmas.List.Elements.{All-append, All-cons, All-head, All-nil, All-tail}
use Rattle.hex.specs.Hex.{encode_lower, encode_with, is_hex_digit, lower_digits}
use Rattle.hex.proofs.HexLemmas.{IsDigits-lower_digits, length-encode_with}
use Rattle.sha2.specs.Sha256.{digest_bytes, final_hash, initial_hash_256, sha256}
use Rattle.sha2.proofs.Facts256.{length-sha256}
use Rattle.relay_core.specs.Name.{is_name_byte}
use Rattle.relay_hall.specs.Keys.{filled, is_key}
use Rattle.relay_service.specs.Calling.Keys.{digest_of, key_in}

abbrev IsByte : ℕ → Type 0
IsByte b = b < 256

byte_of_word : (at word : ℕ) → IsByte (byte_at at word)
byte_of_word zero word = omega arith
byte_of_word (suc at) word = omega arith

bytes_of_word : (count word : ℕ) → All IsByte (bytes_high_first count word)
bytes_of_word zero word = All-nil IsByte
bytes_of_word (suc n) word = All-cons IsByte (byte_at n word) (bytes_high_first n word) (byte_of_word n word) (bytes_of_word n word)

bytes_of_words : (hash : List ℕ) (count : ℕ) → All IsByte (digest_bytes hash count)
unfolding digest_bytes
bytes_of_words hash zero = All-nil IsByte
bytes_of_words hash (suc n) =
    All-append IsByte (digest_bytes hash n) (to_be_bytes w32 (slice_index hash n)) (bytes_of_words hash n) (bytes_of_word 4 (slice_index hash n))

bytes_of_digest : (text : List ℕ) → All IsByte (sha256 text)
unfolding sha256
bytes_of_digest text = bytes_of_words (final_hash initial_hash_256 text) 8

digit_in_keys : (c : ℕ) → is_hex_digit c ≡ true → is_name_byte c ≡ true
digit_in_keys c is = grind (arith, is)

place_in_keys : (d : ℕ) → d < 16 → is_name_byte (slice_index lower_digits d) ≡ true
place_in_keys d lt = digit_in_keys (slice_index lower_digits d) (ap is_some (IsDigits-lower_digits d lt))

digits_in_keys : (bytes : List ℕ) → All IsByte bytes → list_all is_name_byte (encode_lower bytes) ≡ true
unfolding encode_with
digits_in_keys [] are = refl
digits_in_keys (b ∷ rest) are =
    let byte : b < 256 = All-head IsByte b rest are in
    let high : b / 16 < 16 = omega (arith, byte) in
    let low : b % 16 < 16 = omega arith in
    ap (λ (t : Bool). t && list_all is_name_byte (slice_index lower_digits (b % 16) ∷ encode_lower rest)) (place_in_keys (b / 16) high)
    ∙ ap (λ (t : Bool). t && list_all is_name_byte (encode_lower rest)) (place_in_keys (b % 16) low)
    ∙ digits_in_keys rest (All-tail IsByte b rest are)

pub digest_is_key : (text : List ℕ) → is_key (digest_of text) ≡ true
digest_is_key text =
    let long : length (digest_of text) ≡ 64 = omega (arith, length-encode_with lower_digits (sha256 text), length-sha256 text) in
    ap (λ (n : ℕ). nat_le 16 n && (nat_le n 64 && list_all is_name_byte (digest_of text))) long
    ∙ digits_in_keys (sha256 text) (bytes_of_digest text)

-- what is parsed of the digits of a key that a field names is what the field gives
pub parsed_is_key_in : (field digits : List ℕ) (key : Option (List ℕ)) → starts_with nat_eq field (codes "key=") ≡ true
    → is_key (take (length field - 4) (drop 4 field)) ≡ true → digits ≡ digest_of (take (length field - 4) (drop 4 field))
    → is_some key ≡ is_key digits → IfSome key (λ (k : List ℕ). k ≡ filled digits) → key ≡ key_in field
parsed_is_key_in field digits (Some k) named is digest some value =
    let text = take_rest field 4 in
    let gives = ap (λ (t : Bool). t && is_key (drop 4 field)) named ∙ ap is_key (sym text) ∙ is in
    ap Some (value ∙ ap filled (digest ∙ ap digest_of text)) ∙ sym (ap (λ (t : Bool). cond t (Some (filled (digest_of (drop 4 field)))) None) gives)
parsed_is_key_in field digits None named is digest some value = absurd (true≢false (sym (some ∙ ap is_key digest ∙ digest_is_key _)))
