-- What a starting position needs of its rank. This is checked by computation over the 960 numbers.
use Rattle.std.proofs.Common.{◌≡◌, ℕ, Bool, true, false, ◌&&◌, ◌||◌, not, List, length, refl}
use Rattle.std.specs.Prelude.{◌==◌, nat_lt, count_by}
use Rattle.std.specs.List.{list_all, range_with_len}
use Rattle.c960_board.specs.declared.piece.Colour.{Colour}
use Rattle.c960_board.specs.declared.piece.Colour.TheVariants.{White, Black}
use Rattle.c960_board.specs.declared.piece.Kind.{Kind}
use Rattle.c960_board.specs.declared.piece.Kind.TheVariants.{Pawn, Rook, King}
use Rattle.c960_board.specs.Pieces.{holds, same_kind}
use Rattle.c960_board.specs.Array.{array}
use Rattle.c960_board.specs.Start.{kind_on, start_cells}

-- whether a side has one king
unfoldable pub has_one_king : Colour → List Kind → Bool
has_one_king c rank = count_by (holds c King) (start_cells rank 64) == 1

-- whether the file has a piece that is not a pawn
unfoldable pub has_no_pawn : List Kind → ℕ → Bool
has_no_pawn rank f = not (same_kind (kind_on rank f) Pawn)

-- whether the file has a rook
unfoldable pub has_rook : List Kind → ℕ → Bool
has_rook rank f = same_kind (kind_on rank f) Rook

-- whether two truth values are equal
abbrev pub same_truth : Bool → Bool → Bool
same_truth true b = b
same_truth false b = not b

-- whether rooks on these two files, on one side of the king, are the same rook
unfoldable pub is_one : List Kind → ℕ → ℕ → ℕ → Bool
is_one rank king f g =
    not (has_rook rank f && (has_rook rank g && same_truth (nat_lt f king) (nat_lt g king))) || (f == g)

-- whether a rook on the file is the only one on its side of the king
unfoldable pub is_alone : List Kind → ℕ → ℕ → Bool
is_alone rank king f = list_all (is_one rank king f) (range_with_len 0 8)

-- whether a king on the file has at most one rook on each side
unfoldable pub is_king_fit : List Kind → ℕ → Bool
is_king_fit rank king =
    elim (same_kind (kind_on rank king) King) [
      | true ↦ list_all (is_alone rank king) (range_with_len 0 8)
      | false ↦ true
    ]

-- whether a starting position can be made from the rank
unfoldable pub is_start_rank : List Kind → Bool
is_start_rank rank =
    (length rank == 8) && (has_one_king White rank && (has_one_king Black rank
    && (list_all (has_no_pawn rank) (range_with_len 0 8) && list_all (is_king_fit rank) (range_with_len 0 8))))

-- whether a starting position can be made from the number's rank
unfoldable pub is_start : ℕ → Bool
is_start n = is_start_rank (array n)

-- all 960 numbers
pub all_start : list_all is_start (range_with_len 0 960) ≡ true
unfolding is_start is_start_rank is_king_fit is_alone is_one has_rook has_no_pawn has_one_king start_cells
all_start = refl
