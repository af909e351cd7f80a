-- Each lawful rank has a number below 960. This is checked by computation over the arrangements of its pieces.
use Rattle.std.proofs.Common.{◌≡◌, ℕ, zero, suc, ◌+◌, ◌-◌, ◌*◌, ◌/◌, ◌%◌, Bool, true, false, ◌&&◌, cond, not, List, [], ◌∷◌, Option, Some, None, refl, drop, length}
use Rattle.std.specs.Prelude.{◌==◌, nat_lt, slice_get}
use Rattle.std.specs.List.{list_all, list_any, range_with_len, filter}
use Rattle.c960_board.specs.declared.piece.Kind.{Kind}
use Rattle.c960_board.specs.declared.piece.Kind.TheVariants.{Knight, Bishop, Rook, Queen, King}
use Rattle.c960_board.specs.Pieces.{same_kind}
use Rattle.c960_board.specs.Array.{array}

-- whether two ranks are equal
unfoldable pub same_kinds : List Kind → List Kind → Bool
same_kinds [] [] = true
same_kinds [] (y ∷ ys) = false
same_kinds (x ∷ xs) [] = false
same_kinds (x ∷ xs) (y ∷ ys) = same_kind x y && same_kinds xs ys

-- how many of a kind are on the rank
unfoldable pub tally : Kind → List Kind → ℕ
tally k [] = 0
tally k (x ∷ xs) = cond (same_kind x k) (suc (tally k xs)) (tally k xs)

-- whether it is a piece of the kind
abbrev pub is_some_kind : Kind → Option Kind → Bool
is_some_kind k None = false
is_some_kind k (Some x) = same_kind x k

-- whether a piece of the kind is on the file
unfoldable pub is_on : Kind → List Kind → ℕ → Bool
is_on k rank f = is_some_kind k (slice_get rank f)

-- whether there is a rook on each side of the file
unfoldable pub is_beside_rooks : List Kind → ℕ → Bool
is_beside_rooks rank f =
    list_any (is_on Rook rank) (range_with_len 0 f) && list_any (is_on Rook rank) (range_with_len (f + 1) 8)

-- whether the king is on the file, between the rooks
unfoldable pub is_king_between : List Kind → ℕ → Bool
is_king_between rank f = elim (is_on King rank f) [ true ↦ is_beside_rooks rank f | false ↦ false ]

-- whether the king is between the rooks
unfoldable pub is_between : List Kind → Bool
is_between rank = list_any (is_king_between rank) (range_with_len 0 8)

-- whether there is a bishop on the file, and its square has the colour
unfoldable pub is_bishop_of : ℕ → List Kind → ℕ → Bool
is_bishop_of colour rank f = (f % 2 == colour) && is_on Bishop rank f

-- whether there is a bishop on a square of the colour, 1 for light
unfoldable pub has_bishop_of : ℕ → List Kind → Bool
has_bishop_of colour rank = list_any (is_bishop_of colour rank) (range_with_len 0 8)

-- whether king and bishops are where they must be
unfoldable pub is_lawful : List Kind → Bool
is_lawful rank = elim (is_between rank) [ true ↦ has_bishop_of 1 rank && has_bishop_of 0 rank | false ↦ false ]

-- the place of the first of a kind
unfoldable pub place_of : Kind → List Kind → ℕ
place_of k [] = 0
place_of k (x ∷ xs) = cond (same_kind x k) 0 (suc (place_of k xs))

-- the place, among the first, third, .. file or the others, of the first bishop there
unfoldable pub bishop_place : Bool → List Kind → ℕ
bishop_place here [] = 0
bishop_place true (x ∷ xs) = cond (same_kind x Bishop) 0 (suc (bishop_place false xs))
bishop_place false (x ∷ xs) = bishop_place true xs

-- the rank without the squares of a kind
unfoldable pub without : Kind → List Kind → List Kind
without k rank = filter (λ x. not (same_kind x k)) rank

-- the number of two places of five
unfoldable pub pair_number : ℕ → ℕ → ℕ
pair_number p q = p * (9 - p) / 2 + q

-- the number of the knights, if no bishop and no queen is left
unfoldable pub knights_number : List Kind → ℕ
knights_number rank = pair_number (place_of Knight rank) (place_of Knight (drop (place_of Knight rank + 1) rank))

-- the number of queen and knights, if no bishop is left
unfoldable pub rest_number : List Kind → ℕ
rest_number rank = place_of Queen rank + 6 * knights_number (without Queen rank)

-- the number of a lawful rank
unfoldable pub number_from : List Kind → ℕ
number_from rank =
    bishop_place false rank + 4 * (bishop_place true rank + 4 * rest_number (without Bishop rank))

-- whether the rank has a number
unfoldable pub is_found : List Kind → Bool
is_found rank = nat_lt (number_from rank) 960 && same_kinds (array (number_from rank)) rank

-- whether the rank has a number or is not lawful
unfoldable pub found_if_lawful : List Kind → Bool
found_if_lawful rank = elim (is_lawful rank) [ true ↦ is_found rank | false ↦ true ]

-- the test at one less, if one is left
unfoldable pub if_left : ℕ → (ℕ → Bool) → Bool
if_left zero f = true
if_left (suc j) f = f j

-- the test holds for every list of m with this many kings, queens, rooks, knights and bishops
unfoldable pub every : ℕ → ℕ → ℕ → ℕ → ℕ → ℕ → (List Kind → Bool) → Bool
every zero k q r n b test = test []
every (suc m) k q r n b test =
    if_left k (λ j. every m j q r n b (λ xs. test (King ∷ xs)))
    && (if_left q (λ j. every m k j r n b (λ xs. test (Queen ∷ xs)))
    && (if_left r (λ j. every m k q j n b (λ xs. test (Rook ∷ xs)))
    && (if_left n (λ j. every m k q r j b (λ xs. test (Knight ∷ xs)))
    && if_left b (λ j. every m k q r n j (λ xs. test (Bishop ∷ xs))))))

-- all 5,040 arrangements of the pieces
pub all_found : every 8 1 1 2 2 2 found_if_lawful ≡ true
unfolding every if_left found_if_lawful is_lawful is_between is_king_between is_beside_rooks has_bishop_of is_bishop_of
    is_on is_found number_from rest_number knights_number pair_number without bishop_place place_of same_kinds
all_found = refl

-- whether the number is that of its rank
unfoldable pub is_back : ℕ → Bool
is_back n = number_from (array n) == n

-- all 960 numbers
pub all_back : list_all is_back (range_with_len 0 960) ≡ true
unfolding is_back number_from rest_number knights_number pair_number without bishop_place place_of
all_back = refl

-- whether the rank has its eight pieces
unfoldable pub is_full : List Kind → Bool
is_full rank =
    (length rank == 8) && ((tally King rank == 1) && ((tally Queen rank == 1) && ((tally Rook rank == 2)
    && ((tally Knight rank == 2) && (tally Bishop rank == 2)))))

-- whether the number's rank is lawful
unfoldable pub is_lawful_array : ℕ → Bool
is_lawful_array n = is_full (array n) && is_lawful (array n)

-- all 960 ranks
pub all_lawful : list_all is_lawful_array (range_with_len 0 960) ≡ true
unfolding is_lawful_array is_full is_lawful is_between is_king_between is_beside_rooks has_bishop_of is_bishop_of is_on
    tally
all_lawful = refl
