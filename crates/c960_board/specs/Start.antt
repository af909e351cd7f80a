-- The starting positions (Guidelines II.1 and II.2).
use Rattle.std.specs.Prelude.{ℕ, ◌==◌, List, None, Bool, cond, map, slice_index_or}
use Rattle.std.specs.List.{range_with_len}
use Rattle.c960_board.specs.declared.piece.Colour.TheVariants.{White, Black}
use Rattle.c960_board.specs.declared.piece.Kind.{Kind}
use Rattle.c960_board.specs.declared.piece.Kind.TheVariants.{Pawn, Rook}
use Rattle.c960_board.specs.declared.parts.Parts.{Parts}
use Rattle.c960_board.specs.Squares.{file_of, rank_of}
use Rattle.c960_board.specs.Pieces.{Cell, man, same_kind}
use Rattle.c960_board.specs.Array.{array}

-- the piece that a rank has on a file
abbrev pub kind_on : List Kind → ℕ → Kind
kind_on rank f = slice_index_or rank f Pawn

-- White's pieces stand on rank 1 and its pawns on rank 2, Black's opposite on the ranks 8 and 7 (here 0, 1, 7 and 6).
abbrev pub start_cell : List Kind → ℕ → Cell
start_cell rank s =
    cond (rank_of s == 0) (man White (kind_on rank (file_of s)))
    (cond (rank_of s == 1) (man White Pawn)
    (cond (rank_of s == 6) (man Black Pawn)
    (cond (rank_of s == 7) (man Black (kind_on rank (file_of s))) None)))

-- the first n squares
unfoldable pub start_cells : List Kind → ℕ → List Cell
start_cells rank n = map (start_cell rank) (range_with_len 0 n)

-- the files of the rooks
abbrev pub rook_files : List Kind → List Bool
rook_files rank = map (λ k. same_kind k Rook) rank

-- White has the move, each side may castle with both its rooks, there is no target, and the counters have their initial
-- values.
unfoldable pub start_of : List Kind → Parts
start_of rank =
    record {
      placement = start_cells rank 64;
      turn = White;
      rights = record { white = rook_files rank; black = rook_files rank };
      target = None;
      half_moves = 0;
      number = 1;
    }

unfoldable pub start : ℕ → Parts
start n = start_of (array n)
