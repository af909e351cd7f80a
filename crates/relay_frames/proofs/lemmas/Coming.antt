-- How far a head has come, in bytes that more bytes follow.
use Rattle.std.proofs.Common.{◌≡◌, ◌≤◌, ◌<◌, ℕ, Bool, true, false, true≢false, cond, nat_lt, List, [], ◌∷◌, ◌++◌, length, take, drop, Option, None, Some, refl, sym, ◌∙◌, ap, inl, inr, arith, length-append}
use Rattle.std.specs.Prelude.{◌⊎◌}
use Rattle.std.proofs.lemmas.Bool.Decides.{nat_tests}
use Rattle.std.proofs.lemmas.List.{drop-append-le, take-append-le}
use Rattle.std.proofs.lemmas.Option.{none-some}
use Rattle.relay_frames.specs.declared.head.HeadSoFar.TheVariants.{Part, Whole, Refused}
use Rattle.relay_frames.specs.declared.request.TheConstants.{MOST_HEAD_BYTES}
use Rattle.relay_frames.specs.declared.request_refusal.RequestRefusal.{RequestRefusal}
use Rattle.relay_frames.specs.declared.request_refusal.RequestRefusal.TheVariants.{BadRequest, HeadTooLarge}
use Rattle.relay_frames.specs.Heads.{begins_blank, head_end, head_so_far, head_so_far_behind, settled}
use Rattle.relay_frames.proofs.lemmas.Blanks.{head_end_later, head_end_never, head_end_still, head_within, no_end_of_nothing}

-- ---- What each says.

size_of : (size : ℕ) (t : Bool) → nat_lt size MOST_HEAD_BYTES ≡ t → cond t Part (Refused HeadTooLarge) ≡ Part → size < MOST_HEAD_BYTES
size_of size true less is = grind (arith, nat_tests)
size_of size false less is = absurd (cc is)

part_is : (blank : Bool) (size : ℕ) (end : Option ℕ) → cond blank (Refused BadRequest) (settled size end) ≡ Part → (end ≡ None) × (size < MOST_HEAD_BYTES)
part_is true size end is = absurd (cc is)
part_is false size None is = (refl, size_of size (nat_lt size MOST_HEAD_BYTES) refl is)
part_is false size (Some n) is = absurd (cc is)

not_whole : (t : Bool) (n : ℕ) → cond t Part (Refused HeadTooLarge) ≡ Whole n → ⊥
not_whole true n is = cc is
not_whole false n is = cc is

whole_is : (blank : Bool) (size : ℕ) (end : Option ℕ) (n : ℕ) → cond blank (Refused BadRequest) (settled size end) ≡ Whole n → (blank ≡ false) × (end ≡ Some n)
whole_is true size end n is = absurd (cc is)
whole_is false size None n is = absurd (not_whole (nat_lt size MOST_HEAD_BYTES) n is)
whole_is false size (Some m) n is = (refl, cc is)

-- it is refused for how it begins, or since it has too many bytes
abbrev WhyRefused : Bool → ℕ → Option ℕ → RequestRefusal → Type 0
WhyRefused blank size end r = ((blank ≡ true) × (BadRequest ≡ r)) ⊎ ((blank ≡ false) × (end ≡ None) × (MOST_HEAD_BYTES ≤ size) × (HeadTooLarge ≡ r))

too_large : (size : ℕ) (r : RequestRefusal) (t : Bool) → nat_lt size MOST_HEAD_BYTES ≡ t → cond t Part (Refused HeadTooLarge) ≡ Refused r → (MOST_HEAD_BYTES ≤ size) × (HeadTooLarge ≡ r)
too_large size r true less is = absurd (cc is)
too_large size r false less is = (grind (arith, nat_tests), cc is)

refused_is : (blank : Bool) (size : ℕ) (end : Option ℕ) (r : RequestRefusal) → cond blank (Refused BadRequest) (settled size end) ≡ Refused r → WhyRefused blank size end r
refused_is true size end r is = inl (refl, cc is)
refused_is false size None r is =
    let large = too_large size r (nat_lt size MOST_HEAD_BYTES) refl is in
    inr (refl, refl, large.0, large.1)
refused_is false size (Some n) r is = absurd (cc is)

-- ---- Followed by more.

-- one that has yet to end: it is enough to look at what came
pub part_later : (xs ys : List ℕ) → head_so_far xs ≡ Part → head_so_far_behind (length xs) (xs ++ ys) ≡ head_so_far (xs ++ ys)
part_later xs ys is =
    let p = part_is (begins_blank xs) (length xs) (head_end xs) is in
    ap (λ (end : Option ℕ). cond (begins_blank (xs ++ ys)) (Refused BadRequest) (settled (length (xs ++ ys)) end)) (head_end_later xs ys (omega (arith, p.1)) p.0)

-- one that is whole is the same whatever follows it
pub whole_still : (xs ys : List ℕ) (n : ℕ) → head_so_far xs ≡ Whole n → head_so_far (xs ++ ys) ≡ Whole n
whole_still [] ys n is = absurd (none-some n (sym no_end_of_nothing ∙ (whole_is false 0 (head_end []) n is).1))
whole_still (b ∷ bs) ys n is =
    let w = whole_is (begins_blank (b ∷ bs)) (length (b ∷ bs)) (head_end (b ∷ bs)) n is in
    let more = b ∷ bs ++ ys in
    ap (λ (t : Bool). cond t (Refused BadRequest) (settled (length more) (head_end more))) w.0 ∙ ap (settled (length more)) (head_end_still (b ∷ bs) ys n w.1)

pub whole_within : (xs : List ℕ) (n : ℕ) → head_so_far xs ≡ Whole n → n ≤ length xs
whole_within xs n is = head_within xs n (whole_is (begins_blank xs) (length xs) (head_end xs) n is).1

-- one that is refused is refused whatever follows it
still_too_large : (xs ys : List ℕ) → MOST_HEAD_BYTES ≤ length xs → (t : Bool) → nat_lt (length (xs ++ ys)) MOST_HEAD_BYTES ≡ t → cond t Part (Refused HeadTooLarge) ≡ Refused HeadTooLarge
still_too_large xs ys many true less = absurd (let longer : length xs ≤ length (xs ++ ys) = omega (arith, length-append xs ys) in grind (arith, nat_tests))
still_too_large xs ys many false less = refl

still_refused : (b : ℕ) (bs ys : List ℕ) (r : RequestRefusal) → WhyRefused (begins_blank (b ∷ bs)) (length (b ∷ bs)) (head_end (b ∷ bs)) r → head_so_far (b ∷ bs ++ ys) ≡ Refused r
still_refused b bs ys r (inl (blank, is)) =
    let more = b ∷ bs ++ ys in
    ap (λ (t : Bool). cond t (Refused BadRequest) (settled (length more) (head_end more))) blank ∙ ap Refused is
still_refused b bs ys r (inr (blank, none, many, is)) =
    let more = b ∷ bs ++ ys in
    ap (λ (t : Bool). cond t (Refused BadRequest) (settled (length more) (head_end more))) blank
    ∙ ap (settled (length more)) (head_end_never (b ∷ bs) ys many none)
    ∙ still_too_large (b ∷ bs) ys many (nat_lt (length more) MOST_HEAD_BYTES) refl
    ∙ ap Refused is

-- nothing is a part
nothing_refused : {A : Type 0} (r : RequestRefusal) → WhyRefused false 0 (head_end []) r → A
nothing_refused r (inl (blank, is)) = absurd (true≢false (sym blank))
nothing_refused r (inr (blank, none, many, is)) = absurd (omega (arith, many))

pub refused_still : (xs ys : List ℕ) (r : RequestRefusal) → head_so_far xs ≡ Refused r → head_so_far (xs ++ ys) ≡ Refused r
refused_still [] ys r is = nothing_refused r (refused_is false 0 (head_end []) r is)
refused_still (b ∷ bs) ys r is = still_refused b bs ys r (refused_is (begins_blank (b ∷ bs)) (length (b ∷ bs)) (head_end (b ∷ bs)) r is)

pub nothing_is_part : head_so_far [] ≡ Part
nothing_is_part = ap (settled 0) no_end_of_nothing

-- the head is the same, and what comes behind it goes on
pub same_head : (xs ys : List ℕ) (n : ℕ) → n ≤ length xs → take n (xs ++ ys) ≡ take n xs
same_head xs ys n within = take-append-le n xs ys within

pub same_rest : (xs ys : List ℕ) (n : ℕ) → n ≤ length xs → drop n (xs ++ ys) ≡ drop n xs ++ ys
same_rest xs ys n within = drop-append-le n xs ys within
