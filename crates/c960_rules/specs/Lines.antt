-- The lines of the board: ranks, files and diagonals (FIDE Laws, Article 2.4).
use Rattle.std.specs.Prelude.{ℕ, ◌+◌, ◌-◌, List, Bool, ◌&&◌, ◌||◌, ◌==◌, nat_lt}
use Rattle.std.specs.List.{range_with_len}
use Rattle.c960_board.specs.Squares.{file_of, rank_of}

-- the 64 squares, ascending
abbrev pub squares : List ℕ
squares = range_with_len 0 64

-- how far apart two files or two ranks are
abbrev pub distance : ℕ → ℕ → ℕ
distance a b = (a - b) + (b - a)

abbrev pub file_distance : ℕ → ℕ → ℕ
file_distance s t = distance (file_of s) (file_of t)

abbrev pub rank_distance : ℕ → ℕ → ℕ
rank_distance s t = distance (rank_of s) (rank_of t)

abbrev pub same_file : ℕ → ℕ → Bool
same_file s t = file_of s == file_of t

abbrev pub same_rank : ℕ → ℕ → Bool
same_rank s t = rank_of s == rank_of t

abbrev pub same_diagonal : ℕ → ℕ → Bool
same_diagonal s t = file_distance s t == rank_distance s t

-- the squares are on one line
abbrev pub on_line : ℕ → ℕ → Bool
on_line s t = same_rank s t || (same_file s t || same_diagonal s t)

-- b is strictly between a and c
abbrev pub within : ℕ → ℕ → ℕ → Bool
within a b c = (nat_lt a b && nat_lt b c) || (nat_lt c b && nat_lt b a)

-- the square u is strictly between s and t on their common rank, file or diagonal
abbrev pub between : ℕ → ℕ → ℕ → Bool
between s u t =
    (same_rank s u && (same_rank u t && within (file_of s) (file_of u) (file_of t)))
    || ((same_file s u && (same_file u t && within (rank_of s) (rank_of u) (rank_of t)))
    || (same_diagonal s u && (same_diagonal u t && (within (file_of s) (file_of u) (file_of t) && within (rank_of s) (rank_of u) (rank_of t)))))
