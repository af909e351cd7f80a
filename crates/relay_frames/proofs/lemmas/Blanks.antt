-- Where the first empty line ends, in bytes that more bytes follow.
use Rattle.std.proofs.Common.{◌≡◌, ◌≤◌, ◌<◌, ℕ, suc, ◌+◌, ◌-◌, Bool, true, false, cond, nat_eq, nat_le, List, [], ◌∷◌, ◌++◌, length, take, drop, Option, None, Some, option_map, refl, sym, ◌∙◌, ap, subst, append-nil, arith, length-drop, length-take, codes}
use Rattle.std.specs.Cmp.Lexicographic.{pointwise, same_text}
use Rattle.std.specs.List.{starts_with}
use Rattle.std.specs.Prelude.{unwrap_or}
use Rattle.std.proofs.lemmas.List.{drop-drop, take-append-le, take_all}
use Rattle.std.proofs.lemmas.Bool.Decides.{nat_tests}
use Rattle.std.proofs.lemmas.Option.{none-some}
use Rattle.std.proofs.Math.Seq.{take-append-add}
use Rattle.relay_frames.specs.declared.request.TheConstants.{MOST_HEAD_BYTES}
use Rattle.relay_frames.specs.Heads.{blank_end, blank_end_behind, head_end, head_end_behind}

abbrev pub starts_blank : List ℕ → Bool
starts_blank xs = starts_with nat_eq xs (codes "\r\n\r\n")

blank_is_four : (xs : List ℕ) → starts_blank xs ≡ true → 4 ≤ length xs
blank_is_four xs is =
    let same : codes "\r\n\r\n" ≡ take 4 xs = same_text (codes "\r\n\r\n") (take 4 xs) (sym is) in
    let four : 4 ≡ length (take 4 xs) = ap length same in
    omega (arith, four, length-take 4 xs)

-- ---- Byte by byte.

pub blank_at : (xs : List ℕ) (t : Bool) → 0 < length xs → starts_blank xs ≡ t → blank_end xs ≡ cond t (Some 4) (option_map suc (blank_end (drop 1 xs)))
unfolding blank_end
blank_at [] t some is = absurd (omega (arith, some))
blank_at (b ∷ bs) t some is = ap (λ (x : Bool). cond x (Some 4) (option_map suc (blank_end bs))) is

few_here : (b : ℕ) (bs : List ℕ) → length (b ∷ bs) < 4 → blank_end bs ≡ None → (t : Bool) → starts_blank (b ∷ bs) ≡ t → blank_end (b ∷ bs) ≡ None
few_here b bs few none true is = absurd (omega (arith, few, blank_is_four (b ∷ bs) is))
few_here b bs few none false is = blank_at (b ∷ bs) false (omega arith) is ∙ ap (option_map suc) none

pub too_few : (xs : List ℕ) → length xs < 4 → blank_end xs ≡ None
unfolding blank_end
too_few [] few = refl
too_few (b ∷ bs) few = few_here b bs few (too_few bs (omega (arith, few))) (starts_blank (b ∷ bs)) refl

shifted : (n : ℕ) (o : Option ℕ) → option_map (λ e. e + n) (option_map suc o) ≡ option_map (λ e. e + suc n) o
shifted n None = refl
shifted n (Some e) = ap Some (omega arith)

outside : (n : ℕ) (o : Option ℕ) → option_map suc (option_map (λ e. e + n) o) ≡ option_map (λ e. e + suc n) o
outside n None = refl
outside n (Some e) = ap Some (omega arith)

unshifted : (o : Option ℕ) → o ≡ option_map (λ e. e + 0) o
unshifted None = refl
unshifted (Some e) = ap Some (omega arith)

more_than : (n : ℕ) (xs : List ℕ) → n < length xs → 0 < length (drop n xs)
more_than n xs less = omega (arith, less, length-drop n xs)

pub blank_here : (n : ℕ) (xs : List ℕ) → n < length xs → starts_blank (drop n xs) ≡ true → blank_end_behind n xs ≡ Some (4 + n)
blank_here n xs less is = ap (option_map (λ e. e + n)) (blank_at (drop n xs) true (more_than n xs less) is)

pub blank_later : (n : ℕ) (xs : List ℕ) → n < length xs → starts_blank (drop n xs) ≡ false → blank_end_behind n xs ≡ blank_end_behind (suc n) xs
blank_later n xs less is =
    let one : n + 1 ≡ suc n = omega arith in
    ap (option_map (λ e. e + n)) (blank_at (drop n xs) false (more_than n xs less) is)
    ∙ shifted n (blank_end (drop 1 (drop n xs)))
    ∙ ap (λ (ys : List ℕ). option_map (λ e. e + suc n) (blank_end ys)) (drop-drop 1 n xs ∙ ap (λ (k : ℕ). drop k xs) one)

pub blank_nowhere : (n : ℕ) (xs : List ℕ) → length xs < n + 4 → blank_end_behind n xs ≡ None
blank_nowhere n xs few = ap (option_map (λ e. e + n)) (too_few (drop n xs) (omega (arith, few, length-drop n xs)))

-- ---- Followed by more.

none_of_suc : (o : Option ℕ) → option_map suc o ≡ None → o ≡ None
none_of_suc None is = refl
none_of_suc (Some e) is = absurd (none-some (suc e) (sym is))

-- what begins an empty line, or does not, does so whatever follows
starts_still : (xs ys : List ℕ) → 4 ≤ length xs → starts_blank (xs ++ ys) ≡ starts_blank xs
starts_still xs ys four = ap (pointwise nat_eq (codes "\r\n\r\n")) (take-append-le 4 xs ys four)

none_behind : (b : ℕ) (bs ys : List ℕ) → 3 ≤ length bs → blank_end (b ∷ bs) ≡ None → (blank_end bs ≡ None → blank_end (bs ++ ys) ≡ blank_end_behind (length bs - 3) (bs ++ ys))
    → (t : Bool) → starts_blank (b ∷ bs) ≡ t → blank_end (b ∷ bs ++ ys) ≡ blank_end_behind (suc (length bs) - 3) (b ∷ bs ++ ys)
none_behind b bs ys three none rest true is = absurd (none-some 4 (sym none ∙ blank_at (b ∷ bs) true (omega arith) is))
none_behind b bs ys three none rest false is =
    let n = length bs - 3 in
    let one : suc n ≡ suc (length bs) - 3 = omega (arith, three) in
    blank_at (b ∷ bs ++ ys) false (omega arith) (starts_still (b ∷ bs) ys (omega (arith, three)) ∙ is)
    ∙ ap (option_map suc) (rest (none_of_suc (blank_end bs) (sym (blank_at (b ∷ bs) false (omega arith) is) ∙ none)))
    ∙ outside n (blank_end (drop n (bs ++ ys)))
    ∙ ap (λ (k : ℕ). blank_end_behind k (b ∷ bs ++ ys)) one

none_is_behind : (xs ys : List ℕ) → blank_end xs ≡ None → blank_end (xs ++ ys) ≡ blank_end_behind (length xs - 3) (xs ++ ys)
none_is_behind [] ys none = unshifted (blank_end ys)
none_is_behind (b ∷ []) ys none = unshifted (blank_end (b ∷ ys))
none_is_behind (b ∷ c ∷ []) ys none = unshifted (blank_end (b ∷ c ∷ ys))
none_is_behind (b ∷ c ∷ d ∷ []) ys none = unshifted (blank_end (b ∷ c ∷ d ∷ ys))
none_is_behind (b ∷ c ∷ d ∷ e ∷ es) ys none =
    none_behind b (c ∷ d ∷ e ∷ es) ys (omega arith) none (λ n. none_is_behind (c ∷ d ∷ e ∷ es) ys n) (starts_blank (b ∷ c ∷ d ∷ e ∷ es)) refl

some_of_suc : (o p : Option ℕ) → ((n : ℕ) → o ≡ Some n → p ≡ Some n) → (n : ℕ) → option_map suc o ≡ Some n → option_map suc p ≡ Some n
some_of_suc None p same n is = absurd (none-some n is)
some_of_suc (Some e) p same n is = ap (option_map suc) (same e refl) ∙ is

found_on : (b : ℕ) (bs ys : List ℕ) (n : ℕ) → 3 ≤ length bs → blank_end (b ∷ bs) ≡ Some n → ((k : ℕ) → blank_end bs ≡ Some k → blank_end (bs ++ ys) ≡ Some k)
    → (t : Bool) → starts_blank (b ∷ bs) ≡ t → blank_end (b ∷ bs ++ ys) ≡ Some n
found_on b bs ys n three is rest true starts =
    blank_at (b ∷ bs ++ ys) true (omega arith) (starts_still (b ∷ bs) ys (omega (arith, three)) ∙ starts) ∙ sym (blank_at (b ∷ bs) true (omega arith) starts) ∙ is
found_on b bs ys n three is rest false starts =
    blank_at (b ∷ bs ++ ys) false (omega arith) (starts_still (b ∷ bs) ys (omega (arith, three)) ∙ starts)
    ∙ some_of_suc (blank_end bs) (blank_end (bs ++ ys)) rest n (sym (blank_at (b ∷ bs) false (omega arith) starts) ∙ is)

found_still : (xs ys : List ℕ) (n : ℕ) → blank_end xs ≡ Some n → blank_end (xs ++ ys) ≡ Some n
found_still [] ys n is = absurd (none-some n (sym (too_few [] (omega arith)) ∙ is))
found_still (b ∷ []) ys n is = absurd (none-some n (sym (too_few (b ∷ []) (omega arith)) ∙ is))
found_still (b ∷ c ∷ []) ys n is = absurd (none-some n (sym (too_few (b ∷ c ∷ []) (omega arith)) ∙ is))
found_still (b ∷ c ∷ d ∷ []) ys n is = absurd (none-some n (sym (too_few (b ∷ c ∷ d ∷ []) (omega arith)) ∙ is))
found_still (b ∷ c ∷ d ∷ e ∷ es) ys n is =
    found_on b (c ∷ d ∷ e ∷ es) ys n (omega arith) is (λ k. found_still (c ∷ d ∷ e ∷ es) ys k) (starts_blank (b ∷ c ∷ d ∷ e ∷ es)) refl

-- ---- Of a head.

-- the first n of more bytes are those before, and then some of the others
first_of : (n : ℕ) (xs ys : List ℕ) → (more : List ℕ) × (take n (xs ++ ys) ≡ take n xs ++ more)
first_of n xs ys = by (nat_le n (length xs)) refl
  where
    by : (t : Bool) → nat_le n (length xs) ≡ t → (more : List ℕ) × (take n (xs ++ ys) ≡ take n xs ++ more)
    by true is = ([], take-append-le n xs ys (grind (arith, nat_tests)) ∙ sym (append-nil (take n xs)))
    by false is =
        let m = n - length xs in
        let long : length xs < n = grind (arith, nat_tests) in
        let whole : n ≡ length xs + m = omega (arith, long) in (
          take m ys,
          ap (λ (k : ℕ). take k (xs ++ ys)) whole ∙ take-append-add xs ys m ∙ ap (λ (zs : List ℕ). zs ++ take m ys) (sym (take_all n xs (omega (arith, long)))),
        )

-- where a head has ended it has, whatever follows
pub head_end_still : (xs ys : List ℕ) (n : ℕ) → head_end xs ≡ Some n → head_end (xs ++ ys) ≡ Some n
head_end_still xs ys n is =
    let f = first_of MOST_HEAD_BYTES xs ys in
    ap blank_end f.1 ∙ found_still (take MOST_HEAD_BYTES xs) f.0 n is

-- where it has not, and might go on, its end is looked for behind what was looked at
pub head_end_later : (xs ys : List ℕ) → length xs ≤ MOST_HEAD_BYTES → head_end xs ≡ None → head_end_behind (length xs) (xs ++ ys) ≡ head_end (xs ++ ys)
head_end_later xs ys few none =
    let all : take MOST_HEAD_BYTES xs ≡ xs = take_all MOST_HEAD_BYTES xs few in
    let f = first_of MOST_HEAD_BYTES xs ys in
    let is : take MOST_HEAD_BYTES (xs ++ ys) ≡ xs ++ f.0 = f.1 ∙ ap (λ (zs : List ℕ). zs ++ f.0) all in
    ap (blank_end_behind (length xs - 3)) is ∙ sym (none_is_behind xs f.0 (ap blank_end (sym all) ∙ none)) ∙ ap blank_end (sym is)

-- where it has not, and might not go on, it never ends
pub head_end_never : (xs ys : List ℕ) → MOST_HEAD_BYTES ≤ length xs → head_end xs ≡ None → head_end (xs ++ ys) ≡ None
head_end_never xs ys many none = ap blank_end (take-append-le MOST_HEAD_BYTES xs ys many) ∙ none

-- it ends within the bytes
some-is : (a b : ℕ) → Some a ≡ Some b → a ≡ b
some-is a b is = ap (λ (o : Option ℕ). unwrap_or o a) is

within_suc : (o : Option ℕ) (most n : ℕ) → ((k : ℕ) → o ≡ Some k → k ≤ most) → option_map suc o ≡ Some n → n ≤ suc most
within_suc None most n within is = absurd (none-some n is)
within_suc (Some k) most n within is = subst (λ (x : ℕ). x ≤ suc most) (some-is (suc k) n is) (omega (arith, within k refl))

within_here : (b : ℕ) (bs : List ℕ) (n : ℕ) → blank_end (b ∷ bs) ≡ Some n → ((k : ℕ) → blank_end bs ≡ Some k → k ≤ length bs) → (t : Bool) → starts_blank (b ∷ bs) ≡ t → n ≤ suc (length bs)
within_here b bs n is rest true starts = subst (λ (k : ℕ). k ≤ suc (length bs)) (some-is 4 n (sym (blank_at (b ∷ bs) true (omega arith) starts) ∙ is)) (blank_is_four (b ∷ bs) starts)
within_here b bs n is rest false starts = within_suc (blank_end bs) (length bs) n rest (sym (blank_at (b ∷ bs) false (omega arith) starts) ∙ is)

ends_within : (xs : List ℕ) (n : ℕ) → blank_end xs ≡ Some n → n ≤ length xs
ends_within [] n is = absurd (none-some n (sym (too_few [] (omega arith)) ∙ is))
ends_within (b ∷ bs) n is = within_here b bs n is (λ k. ends_within bs k) (starts_blank (b ∷ bs)) refl

pub head_within : (xs : List ℕ) (n : ℕ) → head_end xs ≡ Some n → n ≤ length xs
head_within xs n is = omega (arith, ends_within (take MOST_HEAD_BYTES xs) n is, length-take MOST_HEAD_BYTES xs)

pub no_end_of_nothing : head_end [] ≡ None
no_end_of_nothing = let nothing : List ℕ = [] in too_few (take MOST_HEAD_BYTES nothing) (omega (arith, length-take MOST_HEAD_BYTES nothing))
