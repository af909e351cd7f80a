-- The 960 arrays of the first rank, by Scharnagl's numbers from 0 to 959 (Guidelines II.2 gives the arrays).
use Rattle.std.specs.Prelude.{ℕ, zero, suc, ◌+◌, ◌*◌, ◌/◌, ◌%◌, List, [], ◌∷◌, Option, Some, None, slice_index, slice_set, unwrap_or, map}
use Rattle.c960_board.specs.declared.piece.Kind.{Kind}
use Rattle.c960_board.specs.declared.piece.Kind.TheVariants.{Pawn, Knight, Bishop, Rook, Queen, King}

-- the squares of a rank while the pieces are placed, from the a side
abbrev pub Rank : Type 0
Rank = List (Option Kind)

abbrev pub empty_rank : Rank
empty_rank = None ∷ None ∷ None ∷ None ∷ None ∷ None ∷ None ∷ None ∷ []

-- the file of the k-th free square, counted from the a side from 0
abbrev pub free_file : Rank → ℕ → ℕ
free_file [] k = 0
free_file (Some x ∷ xs) k = free_file xs k + 1
free_file (None ∷ xs) zero = 0
free_file (None ∷ xs) (suc k) = free_file xs k + 1

-- the rank with a piece on that file
abbrev pub on_file : Rank → ℕ → Kind → Rank
on_file r f x = slice_set r f (Some x)

-- the rank with a piece on its k-th free square
abbrev pub on_free : Rank → ℕ → Kind → Rank
on_free r k x = on_file r (free_file r k) x

-- the two free squares of the knights: (0,1), (0,2), (0,3), (0,4), (1,2), (1,3), (1,4), (2,3), (2,4), (3,4)
abbrev pub left_knight : ℕ → ℕ
left_knight k = slice_index (0 ∷ 0 ∷ 0 ∷ 0 ∷ 1 ∷ 1 ∷ 1 ∷ 2 ∷ 2 ∷ 3 ∷ []) k

abbrev pub right_knight : ℕ → ℕ
right_knight k = slice_index (1 ∷ 2 ∷ 3 ∷ 4 ∷ 2 ∷ 3 ∷ 4 ∷ 3 ∷ 4 ∷ 4 ∷ []) k

-- the light bishop on b, d, f or h
abbrev pub with_light_bishop : ℕ → Rank
with_light_bishop n = on_file empty_rank (2 * (n % 4) + 1) Bishop

-- the dark bishop on a, c, e or g
abbrev pub with_bishops : ℕ → Rank
with_bishops n = on_file (with_light_bishop n) (2 * (n / 4 % 4)) Bishop

-- the queen on one of the six free squares
abbrev pub with_queen : ℕ → Rank
with_queen n = on_free (with_bishops n) (n / 4 / 4 % 6) Queen

-- the knights on two of the five free squares; the right one is placed first, since placing the left one would shift the
-- count of the right one's square
abbrev pub with_knights : ℕ → Rank
with_knights n = on_free (on_free (with_queen n) (right_knight (n / 4 / 4 / 6)) Knight) (left_knight (n / 4 / 4 / 6)) Knight

-- rook, king and rook on the last three, from the a side
abbrev pub with_all : ℕ → Rank
with_all n = on_free (on_free (on_free (with_knights n) 0 Rook) 0 King) 0 Rook

-- The rank of a number below 960. From 960 on it is meaningless: the knights' lists are past their end and the ranks
-- repeat (`array 960` is `array 0`), so a contract says `n < STARTS` itself.
abbrev pub array : ℕ → List Kind
array n = map (λ square. unwrap_or square Pawn) (with_all n)
