-- Lemmas on the bytes of a compact object.
use Rattle.std.proofs.Common.{◌≡◌, ℕ, zero, suc, ◌+◌, ◌*◌, ◌/◌, ◌%◌, ◌<◌, ◌^◌, List, [], ◌∷◌, ◌++◌, take, drop, get_or, refl, sym, ap, ap₂, ◌∙◌, arith, append_assoc, decimal}
use Rattle.std.proofs.lemmas.Fmt.{decimal_step}
use Rattle.std.proofs.lemmas.List.{take-append-drop}
use Rattle.json.specs.Print.{escape, quoted}
use Rattle.json.proofs.Printed.Strings.{escape_byte_plain}
use Rattle.relay_messages.specs.Compact.{IsPlainByte}

-- plain bytes are written without escapes
plain_as_it_is : (bs : List ℕ) (n : ℕ) → ((k : ℕ) → k < n → IsPlainByte (get_or bs k 0)) → escape (take n bs) ≡ take n bs
plain_as_it_is [] zero plain = refl
plain_as_it_is [] (suc n) plain = refl
plain_as_it_is (b ∷ bs) zero plain = refl
plain_as_it_is (b ∷ bs) (suc n) plain =
    let first = plain 0 (omega arith) in
    ap₂ (λ (xs ys : List ℕ). xs ++ ys) (escape_byte_plain b first.no_quotation_mark first.no_backslash first.no_control)
    (plain_as_it_is bs n (λ k within. plain (suc k) (omega arith)))

-- between two quotation marks stands a text
pub text_written : (bytes inside rest : List ℕ) (n : ℕ) → bytes ≡ 34 ∷ inside → drop n inside ≡ 34 ∷ rest
    → ((k : ℕ) → k < n → IsPlainByte (get_or inside k 0)) → bytes ≡ quoted (take n inside) ++ rest
text_written bytes inside rest n opened closed plain =
    opened ∙ ap (λ bs. 34 ∷ bs)
    (sym (take-append-drop n inside) ∙ ap₂ (λ (xs ys : List ℕ). xs ++ ys) (sym (plain_as_it_is inside n plain)) closed
    ∙ sym (append_assoc (escape (take n inside)) (34 ∷ []) rest))

-- one more digit
pub digit_written : (number digit : ℕ) (bytes rest : List ℕ) → 0 < number → digit < 10 → number * 10 + digit < 2 ^ 64
    → bytes ≡ (48 + digit) ∷ rest → decimal number ++ bytes ≡ decimal (number * 10 + digit) ++ rest
digit_written number digit bytes rest some small fits first =
    let more = number * 10 + digit in
    let front : more / 10 ≡ number = omega arith in
    let last : more % 10 ≡ digit = omega arith in
    ap (λ bs. decimal number ++ bs) first ∙ sym (append_assoc (decimal number) ((48 + digit) ∷ []) rest)
    ∙ ap (λ bs. bs ++ rest) (ap₂ (λ a b. decimal a ++ ((48 + b) ∷ [])) (sym front) (sym last) ∙ sym (decimal_step more (omega arith) fits))
