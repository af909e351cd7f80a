-- Rays: the squares of a line that lie to one side of a square. The numbers of the squares rise along a ray to the north, the east,
-- the north-east or the north-west, and fall along the others.
use Rattle.std.specs.Prelude.{ℕ, Bool, ◌&&◌, ◌==◌, nat_lt, bit_and}
use Rattle.c960_board.specs.Squares.{file_of, rank_of}
use Rattle.c960_rules.specs.Lines.{same_rank, same_file, same_diagonal}
use Rattle.c960_rules.specs.Inner.Wheres.{where_set}

-- t is north of s on its file
abbrev pub is_north : ℕ → ℕ → Bool
is_north s t = same_file s t && nat_lt (rank_of s) (rank_of t)

-- t is east of s on its rank
abbrev pub is_east : ℕ → ℕ → Bool
is_east s t = same_rank s t && nat_lt (file_of s) (file_of t)

-- t is south of s on its file
abbrev pub is_south : ℕ → ℕ → Bool
is_south s t = same_file s t && nat_lt (rank_of t) (rank_of s)

-- t is west of s on its rank
abbrev pub is_west : ℕ → ℕ → Bool
is_west s t = same_rank s t && nat_lt (file_of t) (file_of s)

-- t is north-east of s on its diagonal
abbrev pub is_north_east : ℕ → ℕ → Bool
is_north_east s t = same_diagonal s t && (nat_lt (rank_of s) (rank_of t) && nat_lt (file_of s) (file_of t))

-- t is north-west of s on its diagonal
abbrev pub is_north_west : ℕ → ℕ → Bool
is_north_west s t = same_diagonal s t && (nat_lt (rank_of s) (rank_of t) && nat_lt (file_of t) (file_of s))

-- t is south-east of s on its diagonal
abbrev pub is_south_east : ℕ → ℕ → Bool
is_south_east s t = same_diagonal s t && (nat_lt (rank_of t) (rank_of s) && nat_lt (file_of s) (file_of t))

-- t is south-west of s on its diagonal
abbrev pub is_south_west : ℕ → ℕ → Bool
is_south_west s t = same_diagonal s t && (nat_lt (rank_of t) (rank_of s) && nat_lt (file_of t) (file_of s))

-- the square u has a lower number than t: it comes before t on a ray that rises
abbrev pub below : ℕ → ℕ → Bool
below u t = nat_lt u t

-- the square u has a higher number than t: it comes before t on a ray that falls
abbrev pub above : ℕ → ℕ → Bool
above u t = nat_lt t u

-- no square of the ray that comes before t is occupied
unfoldable pub is_unblocked : (ℕ → ℕ → Bool) → ℕ → ℕ → ℕ → Bool
is_unblocked before ray occupied t = bit_and (bit_and ray (where_set (λ u. before u t))) occupied == 0
