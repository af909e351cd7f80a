-- What the text of a rank is made of, and that its digits and its letters, each written at its place, are the text.
use Rattle.std.proofs.Common.{◌≡◌, ◌≢◌, ℕ, zero, suc, ◌+◌, ◌-◌, ◌*◌, ◌/◌, ◌%◌, ◌^◌, ◌≤◌, ◌<◌, ◌==◌, nat_lt, Bool, true, false, ◌&&◌, ◌||◌, not, cond, List, [], ◌∷◌, ◌++◌, length, map, get_or, take, drop, replicate, refl, sym, ap, ◌∙◌, true≢false, inl, inr, ◌⊎◌, arith, bit_or, length-append}
use Rattle.std.specs.Int.{bit_at}
use Rattle.std.specs.List.{list_all, range_with_len}
use Rattle.std.proofs.lemmas.Bool.{cases_eq, cases_lt, eq-eqb, eqb-true, le-ltb, lt-ltb, ltb-false, ltb-true}
use Rattle.std.proofs.Math.ListN.{get_or-append}
use Rattle.std.proofs.lemmas.Grind.{get_or-set_at}
use Rattle.std.proofs.lemmas.List.{ext_get_or, get_or-append-add, get_or-map, get_or-set_other, get_or-take, length-map, length-replicate, length-set, length-take-le, map-append}
use Rattle.std.proofs.lemmas.List.Sums.{prefix_len-le-length, prefix_len_stops}
use Rattle.std.proofs.lemmas.Nat.Bits.{bit_at-lt}
use Rattle.c960_board.specs.declared.sets.Sets.{Sets}
use Rattle.c960_board.specs.Fen.Canonical.{run_text, squares_text}
use Rattle.c960_board.specs.Fen.Letters.{letter as letter_of_piece}
use Rattle.c960_board.specs.Fen.RankCells.{rank_cells}
use Rattle.c960_board.specs.Sets.{is_in}
use Rattle.c960_board.specs.Inner.PieceLetters.{digits, piece_in}
use Rattle.c960_board.specs.Inner.RankShape.{digit_of, digits_text, marks, marks_from, place_of, with_letters}
use Rattle.c960_board.proofs.lemmas.Ranges.{each_below}
use Rattle.c960_board.proofs.Written.Lengths.{run_length}
use Rattle.c960_board.proofs.Written.RankBits.{none_there, piece_there}
use Rattle.c960_board.proofs.Written.Spread.{digit_at}
use Rattle.c960_board.proofs.Written.RankCells.{rank_text_empty, rank_text_end, rank_text_piece}

-- ---- The marks of a set of files.

-- each file takes at most one
marks_from_short : (files file left n : ℕ) → length (marks_from files file left n) ≤ left + n
marks_from_short files file zero n = omega (arith, run_length n)
marks_from_short files file (suc left) n =
    by (is_in files file) (marks_from_short files (suc file) left 0) (marks_from_short files (suc file) left (n + 1))
  where
    by : (b : Bool) → length (marks_from files (suc file) left 0) ≤ left + 0 → length (marks_from files (suc file) left (n + 1)) ≤ left + (n + 1)
        → length (cond b (run_text n ++ (256 + file) ∷ marks_from files (suc file) left 0) (marks_from files (suc file) left (n + 1))) ≤ suc left + n
    by true short _ = omega (arith, short, run_length n, length-append (run_text n) ((256 + file) ∷ marks_from files (suc file) left 0))
    by false _ short = omega (arith, short)

-- a text has at most eight bytes
pub marks_short : (files : ℕ) → length (marks files) ≤ 8
unfolding marks
marks_short files = omega (arith, marks_from_short files 0 8 0)

-- each mark is a digit, or the letter of the file whose place this is
abbrev is_placed : ℕ → ℕ → Bool
is_placed files i = let mark = get_or (marks files) i 0 in nat_lt mark 256 || (nat_lt mark 264 && (place_of files (mark - 256) == i))

abbrev are_placed : ℕ → Bool
are_placed files = list_all (is_placed files) (range_with_len 0 (length (marks files)))

-- by computation over all sets of files
all_placed : list_all are_placed (range_with_len 0 256) ≡ true
unfolding marks place_of
all_placed = refl

-- the digit or the letter of a mark
abbrev pub spelt : (ℕ → ℕ) → ℕ → ℕ
spelt letter mark = cond (nat_lt mark 256) mark (letter (mark - 256))

module _ (files : ℕ) (few : files < 256) (i : ℕ) (inside : i < length (marks files)) where
  abbrev mark : ℕ
  mark = get_or (marks files) i 0

  placed : is_placed files i ≡ true
  placed = each_below (is_placed files) (length (marks files)) (each_below are_placed 256 all_placed files few) i inside

  kind : (mark < 256) ⊎ ((file : ℕ) × (file < 8) × (mark ≡ 256 + file) × (place_of files file ≡ i))
  kind = by (nat_lt mark 256) (nat_lt mark 264) (place_of files (mark - 256) == i) refl refl refl placed
    where
      by : (a b c : Bool) → nat_lt mark 256 ≡ a → nat_lt mark 264 ≡ b → (place_of files (mark - 256) == i) ≡ c → (a || (b && c)) ≡ true
          → (mark < 256) ⊎ ((file : ℕ) × (file < 8) × (mark ≡ 256 + file) × (place_of files file ≡ i))
      by true b c e f g h = inl (ltb-true mark 256 e)
      by false true true e f g h =
          let below = ltb-true mark 264 f in
          let above : mark < 256 → ⊥ = λ l. true≢false (sym (lt-ltb mark 256 l) ∙ e) in
          inr (mark - 256, omega (arith, below), omega (arith, above), eqb-true (place_of files (mark - 256)) i g)
      by false true false e f g h = absurd (true≢false (sym h))
      by false false c e f g h = absurd (true≢false (sym h))

-- a file's place, if it is within the text, has the mark of its letter
at_place : (files file : ℕ) → place_of files file < length (marks files) → get_or (marks files) (place_of files file) 0 ≡ 256 + file
unfolding place_of
at_place files file inside =
    let stops = prefix_len_stops (λ mark. not (mark == 256 + file)) (marks files) 0 inside in
    by (get_or (marks files) (place_of files file) 0 == 256 + file) refl stops
  where
    by : (b : Bool) → (get_or (marks files) (place_of files file) 0 == 256 + file) ≡ b → not b ≡ false → get_or (marks files) (place_of files file) 0 ≡ 256 + file
    by true e h = eqb-true (get_or (marks files) (place_of files file) 0) (256 + file) e
    by false e h = absurd (true≢false h)

pub place_bound : (files file : ℕ) → place_of files file ≤ length (marks files)
unfolding place_of
place_bound files file = prefix_len-le-length (λ mark. not (mark == 256 + file)) (marks files)

-- ---- The letters at their places.

-- the byte of a mark once the letters of the first files are written
abbrev shown : (ℕ → ℕ) → ℕ → ℕ → ℕ
shown letter files mark = cond (nat_lt mark 256) mark (cond (nat_lt (mark - 256) files) (letter (mark - 256)) 46)

-- before any letter is written, the digits are
shown_none : (letter : ℕ → ℕ) (mark : ℕ) → digit_of mark ≡ shown letter 0 mark
shown_none letter mark =
    ap (λ (b : Bool). cond (nat_lt mark 256) mark (cond b (letter (mark - 256)) 46)) (sym (le-ltb (mark - 256) 0 (omega arith)))

-- with one letter more, another mark is as it was
shown_other : (letter : ℕ → ℕ) (n mark : ℕ) → mark ≢ 256 + n → shown letter n mark ≡ shown letter (suc n) mark
shown_other letter n mark other = by (nat_lt mark 256) (nat_lt (mark - 256) n) refl refl
  where
    by : (b d : Bool) → nat_lt mark 256 ≡ b → nat_lt (mark - 256) n ≡ d
        → cond b mark (cond d (letter (mark - 256)) 46) ≡ cond b mark (cond (nat_lt (mark - 256) (suc n)) (letter (mark - 256)) 46)
    by true d e f = refl
    by false true e f =
        ap (λ (t : Bool). cond t (letter (mark - 256)) 46) (sym (lt-ltb (mark - 256) (suc n) (omega (arith, ltb-true (mark - 256) n f))))
    by false false e f =
        ap (λ (t : Bool). cond t (letter (mark - 256)) 46)
        (sym (le-ltb (mark - 256) (suc n) (omega (arith, ltb-false mark 256 e, ltb-false (mark - 256) n f, other))))

-- and its own is the letter
shown_own : (letter : ℕ → ℕ) (n : ℕ) → shown letter (suc n) (256 + n) ≡ letter n
shown_own letter n =
    let back : (256 + n) - 256 ≡ n = omega arith in
    ap (λ (b : Bool). cond b (256 + n) (cond (nat_lt ((256 + n) - 256) (suc n)) (letter ((256 + n) - 256)) 46)) (le-ltb (256 + n) 256 (omega arith))
    ∙ ap (λ (b : Bool). cond b (letter ((256 + n) - 256)) 46) (lt-ltb ((256 + n) - 256) (suc n) (omega (arith, back)))
    ∙ ap letter back

-- a mark at another place is not that of the letter
not_own : (files : ℕ) → files < 256 → (n i : ℕ) → i < length (marks files) → i ≢ place_of files n → get_or (marks files) i 0 ≢ 256 + n
not_own files few n i inside other own =
    elim (kind files few i inside) [
      | inl digit ↦ omega (arith, digit, own)
      | inr letter ↦ (let same : letter.0 ≡ n = omega (arith, letter.2, own) in other (sym (ap (place_of files) (sym same) ∙ letter.3)))
    ]

-- once all are written, each mark is spelt
all_shown : (files : ℕ) → files < 256 → (letter : ℕ → ℕ) (i : ℕ) → i < length (marks files)
    → shown letter 8 (get_or (marks files) i 0) ≡ spelt letter (get_or (marks files) i 0)
all_shown files few letter i inside =
    let mark = get_or (marks files) i 0 in
    elim (kind files few i inside) [
      | inl digit ↦
          ap (λ (b : Bool). cond b mark (cond (nat_lt (mark - 256) 8) (letter (mark - 256)) 46)) (lt-ltb mark 256 digit)
          ∙ sym (ap (λ (b : Bool). cond b mark (letter (mark - 256))) (lt-ltb mark 256 digit))
      | inr own ↦
          ap (λ (b : Bool). cond (nat_lt mark 256) mark (cond b (letter (mark - 256)) 46)) (lt-ltb (mark - 256) 8 (omega (arith, own.1, own.2)))
    ]

module _ (files : ℕ) (few : files < 256) (letter : ℕ → ℕ) (at : ℕ) (bytes : List ℕ) (room : at + 8 < length bytes) where
  abbrev text : ℕ → List ℕ
  text n = with_letters (place_of files) letter at n bytes

  length_kept : (n : ℕ) → length (text n) ≡ length bytes
  length_kept zero = refl
  length_kept (suc n) = length-set (text n) (at + place_of files n) (letter n) ∙ length_kept n

  below_kept : (n k : ℕ) → k < at → get_or (text n) k 0 ≡ get_or bytes k 0
  below_kept zero k below = refl
  below_kept (suc n) k below =
      get_or-set_other (text n) (at + place_of files n) k (letter n) 0 (omega (arith, below)) ∙ below_kept n k below

  -- the letter of a file that has none in the text is written behind it
  at_mark : ((i : ℕ) → i < length (marks files) → get_or bytes (at + i) 0 ≡ digit_of (get_or (marks files) i 0))
      → (n i : ℕ) → n ≤ 8 → i < length (marks files) → get_or (text n) (at + i) 0 ≡ shown letter n (get_or (marks files) i 0)
  at_mark digits zero i most inside = digits i inside ∙ shown_none letter (get_or (marks files) i 0)
  at_mark digits (suc n) i most inside =
      elim (cases_eq i (place_of files n)) [
        | inl here ↦
            (let own : get_or (marks files) i 0 ≡ 256 + n =
            ap (λ (k : ℕ). get_or (marks files) k 0) here ∙ at_place files n (omega (arith, here, inside)) in
            get_or-set_at (text n) (at + place_of files n) (at + i) (letter n) 0 (omega (arith, here))
            (omega (arith, here, inside, marks_short files, length_kept n))
            ∙ sym (ap (shown letter (suc n)) own ∙ shown_own letter n))
        | inr other ↦
            get_or-set_other (text n) (at + place_of files n) (at + i) (letter n) 0 (omega (arith, other)) ∙ at_mark digits n i (omega (arith, most)) inside
            ∙ shown_other letter n (get_or (marks files) i 0) (not_own files few n i inside other)
      ]

-- the digits are eight bytes, of which the first are those of the marks
digits_length : (files : ℕ) → length (digits_text files) ≡ 8
unfolding digits_text
digits_length files =
    length-take-le 8 (map digit_of (marks files) ++ replicate 8 32)
    (omega (arith, length-append (map digit_of (marks files)) (replicate 8 32), length-replicate {A = ℕ} 8 32))

digit_at_mark : (files i : ℕ) → i < length (marks files) → get_or (digits_text files) i 0 ≡ digit_of (get_or (marks files) i 0)
unfolding digits_text
digit_at_mark files i inside =
    get_or-take 8 (map digit_of (marks files) ++ replicate 8 32) i 0 (omega (arith, inside, marks_short files))
    ∙ get_or-append (map digit_of (marks files)) (replicate 8 32) 0 i (omega (arith, inside, length-map (marks files) digit_of))
    ∙ get_or-map digit_of (marks files) i 0 0 inside

-- the digits and then the letters, each written at its place, make the text
module _ (files : ℕ) (few : files < 256) (letter : ℕ → ℕ) (at : ℕ) (old bytes : List ℕ) (room : at + 8 < length bytes)
    (were : take (at + 8) bytes ≡ take at old ++ digits_text files) where
  front : length (take at old) ≡ at
  front =
      omega (arith, ap length were, length-take-le (at + 8) bytes (omega (arith, room)), length-append (take at old) (digits_text files), digits_length files)

  was : (k : ℕ) → k < at + 8 → get_or bytes k 0 ≡ get_or (take at old ++ digits_text files) k 0
  was k below = sym (get_or-take (at + 8) bytes k 0 below) ∙ ap (λ (l : List ℕ). get_or l k 0) were

  was_digit : (i : ℕ) → i < length (marks files) → get_or bytes (at + i) 0 ≡ digit_of (get_or (marks files) i 0)
  was_digit i inside =
      was (at + i) (omega (arith, inside, marks_short files))
      ∙ ap (λ (k : ℕ). get_or (take at old ++ digits_text files) (k + i) 0) (sym front)
      ∙ get_or-append-add (take at old) (digits_text files) i 0
      ∙ digit_at_mark files i inside

  pub letters_written : take (at + length (marks files)) (with_letters (place_of files) letter at 8 bytes) ≡ take at old ++ map (spelt letter) (marks files)
  letters_written =
      let n = length (marks files) in
      let text : List ℕ = with_letters (place_of files) letter at 8 bytes in
      let short = marks_short files in
      let kept = length_kept files few letter at bytes room 8 in
      let whole = length-take-le (at + n) text (omega (arith, kept, short)) in
      let back = length-map (marks files) (spelt letter) in
      let both = length-append (take at old) (map (spelt letter) (marks files)) in
      ext_get_or 0 (take (at + n) text) (take at old ++ map (spelt letter) (marks files)) (omega (arith, whole, front, back, both))
      (λ k below.
      get_or-take (at + n) text k 0 (omega (arith, below, whole))
      ∙ elim (cases_lt k at) [
        | inl before ↦
            below_kept files few letter at bytes room 8 k before ∙ was k (omega (arith, before))
            ∙ get_or-append (take at old) (digits_text files) 0 k (omega (arith, before, front))
            ∙ sym (get_or-append (take at old) (map (spelt letter) (marks files)) 0 k (omega (arith, before, front)))
        | inr behind ↦
            (let i = k - at in
            let inside : i < n = omega (arith, below, whole, behind) in
            let there : at + i ≡ k = omega (arith, behind) in
            ap (λ (j : ℕ). get_or text j 0) (sym there) ∙ at_mark files few letter at bytes room was_digit 8 i (omega arith) inside
            ∙ all_shown files few letter i inside
            ∙ sym (ap (λ (j : ℕ). get_or (take at old ++ map (spelt letter) (marks files)) j 0) (sym there)
            ∙ ap (λ (j : ℕ). get_or (take at old ++ map (spelt letter) (marks files)) (j + i) 0) (sym front)
            ∙ get_or-append-add (take at old) (map (spelt letter) (marks files)) i 0
            ∙ get_or-map (spelt letter) (marks files) i 0 0 inside))
      ])

-- ---- What they spell.

run_spelt : (letter : ℕ → ℕ) (n : ℕ) → n ≤ 8 → map (spelt letter) (run_text n) ≡ run_text n
run_spelt letter zero few = refl
run_spelt letter (suc n) few =
    ap (λ (b : Bool). cond b (48 + suc n) (letter ((48 + suc n) - 256)) ∷ []) (lt-ltb (48 + suc n) 256 (omega (arith, few)))

letter_spelt : (letter : ℕ → ℕ) (file : ℕ) → spelt letter (256 + file) ≡ letter file
letter_spelt letter file =
    let back : (256 + file) - 256 ≡ file = omega arith in
    ap (λ (b : Bool). cond b (256 + file) (letter ((256 + file) - 256))) (le-ltb (256 + file) 256 (omega arith)) ∙ ap letter back

module _ (s : Sets) (rank files : ℕ) (letter : ℕ → ℕ)
    (occupied : (file : ℕ) → file < 8 → bit_at files file ≡ bit_at (bit_or s.white s.black) (8 * rank + file))
    (are : (file : ℕ) → file < 8 → letter file ≡ letter_of_piece (piece_in s (8 * rank + file))) where
  spelt_from : (file left n : ℕ) → file + left ≡ 8 → n ≤ file
      → squares_text (drop file (rank_cells s rank)) n ≡ map (spelt letter) (marks_from files file left n)
  spelt_from file zero n end few = rank_text_end s rank file n (omega (arith, end)) ∙ sym (run_spelt letter n (omega (arith, few, end)))
  spelt_from file (suc left) n end few = by (bit_at files file == 1) refl (spelt_from (suc file) left 0 (omega (arith, end)) (omega arith))
      (spelt_from (suc file) left (n + 1) (omega (arith, end)) (omega (arith, few)))
    where
      by : (b : Bool) → (bit_at files file == 1) ≡ b
          → squares_text (drop (suc file) (rank_cells s rank)) 0 ≡ map (spelt letter) (marks_from files (suc file) left 0)
          → squares_text (drop (suc file) (rank_cells s rank)) (n + 1) ≡ map (spelt letter) (marks_from files (suc file) left (n + 1))
          → squares_text (drop file (rank_cells s rank)) n
          ≡ map (spelt letter) (cond b (run_text n ++ (256 + file) ∷ marks_from files (suc file) left 0) (marks_from files (suc file) left (n + 1)))
      by true e piece empty =
          let u = 8 * rank + file in
          let there = piece_there s u (sym (occupied file (omega (arith, end))) ∙ eqb-true (bit_at files file) 1 e) in
          let rest = marks_from files (suc file) left 0 in
          let next : file + 1 ≡ suc file = omega arith in
          rank_text_piece s rank file n (piece_in s u) (omega (arith, end)) there
          ∙ ap (λ (t : List ℕ). run_text n ++ letter_of_piece (piece_in s u) ∷ t) (ap (λ (k : ℕ). squares_text (drop k (rank_cells s rank)) 0) next ∙ piece)
          ∙ ap (λ (l : ℕ). run_text n ++ l ∷ map (spelt letter) rest) (sym (are file (omega (arith, end))) ∙ sym (letter_spelt letter file))
          ∙ ap (λ (r : List ℕ). r ++ spelt letter (256 + file) ∷ map (spelt letter) rest) (sym (run_spelt letter n (omega (arith, few, end))))
          ∙ sym (map-append (spelt letter) (run_text n) ((256 + file) ∷ rest))
      by false e piece empty =
          let u = 8 * rank + file in
          let not_one : bit_at files file ≢ 1 = λ one. true≢false (sym (eq-eqb (bit_at files file) 1 one) ∙ e) in
          let zero_there : bit_at files file ≡ 0 = omega (arith, bit_at-lt files file, not_one) in
          let none = none_there s u (sym (occupied file (omega (arith, end))) ∙ zero_there) in
          let next : file + 1 ≡ suc file = omega arith in
          rank_text_empty s rank file n (omega (arith, end)) none
          ∙ ap (λ (k : ℕ). squares_text (drop k (rank_cells s rank)) (n + 1)) next ∙ empty

  -- the text of the rank
  pub rank_spelt : squares_text (rank_cells s rank) 0 ≡ map (spelt letter) (marks files)
  unfolding marks
  rank_spelt = spelt_from 0 8 0 refl (omega arith)

-- ---- A place that is read.

-- from the row of all
pub place_read : (files places file place : ℕ) → places ≡ digits (place_of files) 8 → file < 8 → place ≡ places / 2 ^ (4 * file) % 16
    → place ≡ place_of files file
place_read files places file place row on read =
    read ∙ ap (λ (n : ℕ). n / 2 ^ (4 * file) % 16) row
    ∙ digit_at (place_of files) 8 file (λ i. omega (arith, place_bound files i, marks_short files)) on
