-- Squares by their number, file plus eight times rank, both counted from 0: a1 is 0, b1 is 1, h8 is 63.
use Rattle.std.specs.Prelude.{ℕ, ◌≡◌, ◌+◌, ◌-◌, ◌*◌, ◌/◌, ◌%◌, ◌⊎◌}
use Rattle.c960_board.specs.declared.piece.Colour.{Colour}
use Rattle.c960_board.specs.declared.piece.Colour.TheVariants.{White, Black}

-- the files a to h are 0 to 7
abbrev pub file_of : ℕ → ℕ
file_of s = s % 8

-- the ranks 1 to 8 are 0 to 7
abbrev pub rank_of : ℕ → ℕ
rank_of s = s / 8

-- the rank on which a side's pieces are at the start
abbrev pub home_rank : Colour → ℕ
home_rank White = 0
home_rank Black = 7

-- the square of a side's home rank on a file, for files below 8
abbrev pub home_square : Colour → ℕ → ℕ
home_square c f = 8 * home_rank c + f

-- The square one rank forward, as a side's pawns go: meant for squares off the first and the last rank. At Black's end it
-- gives 0, at White's a number from 64 on.
abbrev pub ahead : Colour → ℕ → ℕ
ahead White s = s + 8
ahead Black s = s - 8

-- the first rank and the last, on which there is no pawn
abbrev pub IsEndRank : ℕ → Type 0
IsEndRank r = (r ≡ 0) ⊎ (r ≡ 7)
