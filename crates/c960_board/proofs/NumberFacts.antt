-- The numbers and the lawful ranks correspond one to one.
use Rattle.std.proofs.Common.{◌≡◌, ℕ, suc, ◌+◌, ◌%◌, ◌<◌, ◌≤◌, Bool, true, ◌&&◌, List, [], ◌∷◌, Option, Some, None, length, cond, refl, sym, ap, subst, ◌∙◌, arith}
use Rattle.std.specs.Prelude.{◌==◌, nat_lt, slice_get}
use Rattle.std.specs.List.{list_any, range_with_len}
use Rattle.std.proofs.Math.Numerals.{one-add}
use Rattle.std.proofs.lemmas.Bool.{and_from, and_parts, eqb-true, eq-eqb, ltb-true}
use Rattle.std.proofs.lemmas.List.Recursion.{is_count_by}
use Rattle.std.proofs.lemmas.Option.{slice_get_within}
use Rattle.c960_board.specs.declared.numbering.TheConstants.{STARTS}
use Rattle.c960_board.specs.declared.piece.Kind.{Kind}
use Rattle.c960_board.specs.declared.piece.Kind.TheVariants.{Pawn, Knight, Bishop, Rook, Queen, King}
use Rattle.c960_board.specs.Pieces.{same_kind}
use Rattle.c960_board.specs.Array.{array}
use Rattle.c960_board.specs.LawfulRank.{pieces_of, Stands, IsBetweenRooks, IsLawfulRank}
use Rattle.c960_board.proofs.lemmas.Ranges.{each_below, some_range, passes_from}
use Rattle.c960_board.proofs.lemmas.Tests.{implied_tells, so_parts, then_so}
use Rattle.c960_board.proofs.KindFacts.{same_kind_is, same_kind_self}
use Rattle.c960_board.proofs.NumberTable.{same_kinds, tally, is_some_kind, is_on, is_beside_rooks, is_king_between, is_between, is_bishop_of, has_bishop_of, is_lawful, number_from, is_found, found_if_lawful, every, if_left, all_found, is_back, all_back, is_full, is_lawful_array, all_lawful}

-- ranks that pass the test are equal
same_kinds_is : (xs ys : List Kind) → same_kinds xs ys ≡ true → xs ≡ ys
unfolding same_kinds
same_kinds_is [] [] e = refl
same_kinds_is [] (y ∷ ys) e = absurd cc
same_kinds_is (x ∷ xs) [] e = absurd cc
same_kinds_is (x ∷ xs) (y ∷ ys) e =
    let parts = and_parts (same_kind x y) (same_kinds xs ys) e in
    let head = same_kind_is x y parts.0 in
    let tail = same_kinds_is xs ys parts.1 in
    cc

-- the tally is the count
tally_counts : (k : Kind) (xs : List Kind) → tally k xs ≡ pieces_of k xs
unfolding tally
tally_counts k =
    is_count_by (tally k) (λ x. same_kind x k) refl
    (λ x xs. ap (λ (n : ℕ). cond (same_kind x k) n (tally k xs)) (sym (one-add (tally k xs))))

-- each square of a rank has some piece
total : (xs : List Kind)
    → tally King xs + tally Queen xs + tally Rook xs + tally Knight xs + tally Bishop xs + tally Pawn xs ≡ length xs
unfolding tally
total [] = refl
total (Pawn ∷ xs) = omega (arith, total xs)
total (Knight ∷ xs) = omega (arith, total xs)
total (Bishop ∷ xs) = omega (arith, total xs)
total (Rook ∷ xs) = omega (arith, total xs)
total (Queen ∷ xs) = omega (arith, total xs)
total (King ∷ xs) = omega (arith, total xs)

-- what passes the test of a square
kind_in : (k : Kind) (o : Option Kind) → is_some_kind k o ≡ true → o ≡ Some k
kind_in k None e = absurd cc
kind_in k (Some x) e = ap (λ (y : Kind). Some y) (same_kind_is x k e)

-- what is there passes the test
on_from : (k : Kind) (rank : List Kind) (f : ℕ) → Stands k rank f → is_on k rank f ≡ true
unfolding is_on
on_from k rank f h = ap (is_some_kind k) h ∙ same_kind_self k

-- what passes the test is there
stands_from : (k : Kind) (rank : List Kind) (f : ℕ) → is_on k rank f ≡ true → Stands k rank f
unfolding is_on
stands_from k rank f h = kind_in k (slice_get rank f) h

-- what is there is found in a range
found_on : (k : Kind) (rank : List Kind) (a n f : ℕ) → a ≤ f → f < a + n → Stands k rank f
    → list_any (is_on k rank) (range_with_len a n) ≡ true
found_on k rank a n f from below h =
    some_range (is_on k rank) a n (record { number = f; from = from; below = below; passes = on_from k rank f h })

-- the king between the rooks passes the test
between_passes : (rank : List Kind) → length rank ≡ 8 → IsBetweenRooks rank → is_between rank ≡ true
unfolding is_between is_king_between is_beside_rooks
between_passes rank full h =
    let king_on = slice_get_within rank h.king King h.between in
    let right_on = slice_get_within rank h.right Rook h.right_rook in
    let beyond_left = h.beyond_left in
    let beyond_right = h.beyond_right in
    let left = found_on Rook rank 0 h.king h.left (omega arith) (omega arith) h.left_rook in
    let right = found_on Rook rank (h.king + 1) 8 h.right (omega arith) (omega arith) h.right_rook in
    some_range (is_king_between rank) 0 8
    (record {
      number = h.king;
      from = omega arith;
      below = omega arith;
      passes = then_so (is_on King rank h.king) (is_beside_rooks rank h.king) (on_from King rank h.king h.between) (and_from _ _ left right);
    })

-- what passes the test has its king between the rooks
between_from : (rank : List Kind) → is_between rank ≡ true → IsBetweenRooks rank
unfolding is_between is_king_between is_beside_rooks
between_from rank e =
    let king = passes_from (is_king_between rank) 0 8 e in
    let k = king.number in
    let parts = so_parts (is_on King rank k) (is_beside_rooks rank k) king.passes in
    let before = list_any (is_on Rook rank) (range_with_len 0 k) in
    let after = list_any (is_on Rook rank) (range_with_len (k + 1) 8) in
    let sides = and_parts before after parts.1 in
    let left = passes_from (is_on Rook rank) 0 k sides.0 in
    let right = passes_from (is_on Rook rank) (k + 1) 8 sides.1 in
    let from_left = left.below in
    let from_right = right.from in
    record {
      left = left.number;
      king = k;
      right = right.number;
      beyond_left = omega arith;
      beyond_right = omega arith;
      left_rook = stands_from Rook rank left.number left.passes;
      between = stands_from King rank k parts.0;
      right_rook = stands_from Rook rank right.number right.passes;
    }

-- a bishop on a square of the colour passes the test
bishop_passes : (colour : ℕ) (rank : List Kind) (f : ℕ) → length rank ≡ 8 → f % 2 ≡ colour → Stands Bishop rank f
    → has_bishop_of colour rank ≡ true
unfolding has_bishop_of is_bishop_of
bishop_passes colour rank f full e h =
    let on = slice_get_within rank f Bishop h in
    some_range (is_bishop_of colour rank) 0 8
    (record {
      number = f;
      from = omega arith;
      below = omega arith;
      passes = and_from (f % 2 == colour) (is_on Bishop rank f) (eq-eqb _ _ e) (on_from Bishop rank f h);
    })

-- a bishop on a square of the colour
record BishopOf (colour : ℕ) (rank : List Kind) : Type 0 where
  file : ℕ
  is_of : file % 2 ≡ colour
  bishop : Stands Bishop rank file

-- what passes the test has a bishop there
bishop_from : (colour : ℕ) (rank : List Kind) → has_bishop_of colour rank ≡ true → BishopOf colour rank
unfolding has_bishop_of is_bishop_of
bishop_from colour rank e =
    let found = passes_from (is_bishop_of colour rank) 0 8 e in
    let parts = and_parts (found.number % 2 == colour) (is_on Bishop rank found.number) found.passes in
    record { file = found.number; is_of = eqb-true _ _ parts.0; bishop = stands_from Bishop rank found.number parts.1 }

-- a lawful rank passes the test
lawful_passes : (rank : List Kind) → IsLawfulRank rank → is_lawful rank ≡ true
unfolding is_lawful
lawful_passes rank h =
    let b = h.bishops in
    let light = bishop_passes 1 rank b.light h.full b.is_light b.light_bishop in
    let dark = bishop_passes 0 rank b.dark h.full b.is_dark b.dark_bishop in
    then_so (is_between rank) (has_bishop_of 1 rank && has_bishop_of 0 rank) (between_passes rank h.full h.king)
    (and_from _ _ light dark)

-- what a test of every list says, by the first element of the list
record Parts (m k q r n b : ℕ) (test : List Kind → Bool) : Type 0 where
  king : if_left k (λ j. every m j q r n b (λ xs. test (King ∷ xs))) ≡ true
  queen : if_left q (λ j. every m k j r n b (λ xs. test (Queen ∷ xs))) ≡ true
  rook : if_left r (λ j. every m k q j n b (λ xs. test (Rook ∷ xs))) ≡ true
  knight : if_left n (λ j. every m k q r j b (λ xs. test (Knight ∷ xs))) ≡ true
  bishop : if_left b (λ j. every m k q r n j (λ xs. test (Bishop ∷ xs))) ≡ true

-- the parts of five tests
five_parts : (a b c d e : Bool) → (a && (b && (c && (d && e)))) ≡ true
    → (a ≡ true) × (b ≡ true) × (c ≡ true) × (d ≡ true) × (e ≡ true)
five_parts a b c d e h =
    let p = and_parts a (b && (c && (d && e))) h in
    let q = and_parts b (c && (d && e)) p.1 in
    let r = and_parts c (d && e) q.1 in
    let s = and_parts d e r.1 in
    (p.0, q.0, r.0, s.0, s.1)

-- the cases of a test of every list
parts_of : (m k q r n b : ℕ) (test : List Kind → Bool) → every (suc m) k q r n b test ≡ true → Parts m k q r n b test
unfolding every
parts_of m k q r n b test e =
    let p = five_parts
    (if_left k (λ j. every m j q r n b (λ xs. test (King ∷ xs))))
    (if_left q (λ j. every m k j r n b (λ xs. test (Queen ∷ xs))))
    (if_left r (λ j. every m k q j n b (λ xs. test (Rook ∷ xs))))
    (if_left n (λ j. every m k q r j b (λ xs. test (Knight ∷ xs))))
    (if_left b (λ j. every m k q r n j (λ xs. test (Bishop ∷ xs)))) e in
    record { king = p.0; queen = p.1; rook = p.2; knight = p.3; bishop = p.4 }

-- what holds of every list with these pieces holds of one
covers : (xs : List Kind) (test : List Kind → Bool) → tally Pawn xs ≡ 0 →
    every (length xs) (tally King xs) (tally Queen xs) (tally Rook xs) (tally Knight xs) (tally Bishop xs) test ≡ true
    → test xs ≡ true
unfolding every if_left tally
covers [] test p e = e
covers (Pawn ∷ xs) test p e = absurd (omega arith)
covers (King ∷ xs) test p e =
    covers xs (λ ys. test (King ∷ ys)) p
    (parts_of (length xs) (suc (tally King xs)) (tally Queen xs) (tally Rook xs) (tally Knight xs) (tally Bishop xs)
    test e).king
covers (Queen ∷ xs) test p e =
    covers xs (λ ys. test (Queen ∷ ys)) p
    (parts_of (length xs) (tally King xs) (suc (tally Queen xs)) (tally Rook xs) (tally Knight xs) (tally Bishop xs)
    test e).queen
covers (Rook ∷ xs) test p e =
    covers xs (λ ys. test (Rook ∷ ys)) p
    (parts_of (length xs) (tally King xs) (tally Queen xs) (suc (tally Rook xs)) (tally Knight xs) (tally Bishop xs)
    test e).rook
covers (Knight ∷ xs) test p e =
    covers xs (λ ys. test (Knight ∷ ys)) p
    (parts_of (length xs) (tally King xs) (tally Queen xs) (tally Rook xs) (suc (tally Knight xs)) (tally Bishop xs)
    test e).knight
covers (Bishop ∷ xs) test p e =
    covers xs (λ ys. test (Bishop ∷ ys)) p
    (parts_of (length xs) (tally King xs) (tally Queen xs) (tally Rook xs) (tally Knight xs) (suc (tally Bishop xs))
    test e).bishop

-- a rank that passes has its number
found_is : (rank : List Kind) → is_lawful rank ≡ true → found_if_lawful rank ≡ true → is_found rank ≡ true
unfolding found_if_lawful
found_is rank l e = implied_tells (is_lawful rank) (is_found rank) e l

-- a lawful rank has a number
pub number_is : (rank : List Kind) → IsLawfulRank rank → (number_from rank < STARTS) × (array (number_from rank) ≡ rank)
unfolding is_found
number_is rank h =
    let full = h.full in
    let king : tally King rank ≡ 1 = tally_counts King rank ∙ h.one_king in
    let queen : tally Queen rank ≡ 1 = tally_counts Queen rank ∙ h.one_queen in
    let rooks : tally Rook rank ≡ 2 = tally_counts Rook rank ∙ h.two_rooks in
    let knights : tally Knight rank ≡ 2 = tally_counts Knight rank ∙ h.two_knights in
    let bishops : tally Bishop rank ≡ 2 = tally_counts Bishop rank ∙ h.two_bishops in
    let here :
    every (length rank) (tally King rank) (tally Queen rank) (tally Rook rank) (tally Knight rank) (tally Bishop rank)
    found_if_lawful ≡ true =
    rw (full, king, queen, rooks, knights, bishops) all_found in
    let pawns : tally Pawn rank ≡ 0 = omega (arith, total rank) in
    let found = found_is rank (lawful_passes rank h) (covers rank found_if_lawful pawns here) in
    let parts = and_parts (nat_lt (number_from rank) 960) (same_kinds (array (number_from rank)) rank) found in
    (ltb-true _ _ parts.0, same_kinds_is (array (number_from rank)) rank parts.1)

-- a number is that of its rank
pub number_back : (n : ℕ) → n < STARTS → number_from (array n) ≡ n
unfolding is_back
number_back n l = eqb-true _ _ (each_below is_back 960 all_back n l)

-- no two numbers have one rank
pub same_number : (m n : ℕ) → m < STARTS → n < STARTS → array m ≡ array n → m ≡ n
same_number m n p q e = sym (number_back m p) ∙ ap number_from e ∙ number_back n q

-- what passes the test of a lawful rank
lawful_from : (rank : List Kind) → (is_full rank && is_lawful rank) ≡ true → IsLawfulRank rank
unfolding is_full is_lawful
lawful_from rank e =
    let parts = and_parts (is_full rank) (is_lawful rank) e in
    let a = and_parts _ _ parts.0 in
    let b = and_parts _ _ a.1 in
    let c = and_parts _ _ b.1 in
    let d = and_parts _ _ c.1 in
    let f = and_parts _ _ d.1 in
    let g = so_parts (is_between rank) (has_bishop_of 1 rank && has_bishop_of 0 rank) parts.1 in
    let h = and_parts (has_bishop_of 1 rank) (has_bishop_of 0 rank) g.1 in
    let light = bishop_from 1 rank h.0 in
    let dark = bishop_from 0 rank h.1 in
    record {
      full = eqb-true _ _ a.0;
      one_king = sym (tally_counts King rank) ∙ eqb-true _ _ b.0;
      one_queen = sym (tally_counts Queen rank) ∙ eqb-true _ _ c.0;
      two_rooks = sym (tally_counts Rook rank) ∙ eqb-true _ _ d.0;
      two_knights = sym (tally_counts Knight rank) ∙ eqb-true _ _ f.0;
      two_bishops = sym (tally_counts Bishop rank) ∙ eqb-true _ _ f.1;
      king = between_from rank g.0;
      bishops = record {
        light = light.file;
        dark = dark.file;
        is_light = light.is_of;
        is_dark = dark.is_of;
        light_bishop = light.bishop;
        dark_bishop = dark.bishop;
      };
    }

-- each number's rank is lawful
pub array_is_lawful : (n : ℕ) → n < STARTS → IsLawfulRank (array n)
unfolding is_lawful_array
array_is_lawful n l = lawful_from (array n) (each_below is_lawful_array 960 all_lawful n l)

-- a rank that has no number is not lawful
pub none_is_lawful : (rank : List Kind) → ((n : ℕ) → n < STARTS → array n ≡ rank → ⊥) → IsLawfulRank rank → ⊥
none_is_lawful rank none h = let n = number_is rank h in none (number_from rank) n.0 n.1

-- and one that has a number is
pub numbered_is_lawful : (rank : List Kind) (n : ℕ) → n < STARTS → array n ≡ rank → IsLawfulRank rank
numbered_is_lawful rank n l e = subst IsLawfulRank e (array_is_lawful n l)
