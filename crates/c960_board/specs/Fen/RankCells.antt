-- The cells of a rank, according to sets of squares.
use Rattle.std.specs.Prelude.{ℕ, ◌*◌, List, map}
use Rattle.std.specs.List.{range_with_len}
use Rattle.c960_board.specs.declared.sets.Sets.{Sets}
use Rattle.c960_board.specs.Pieces.{Cell}
use Rattle.c960_board.specs.Sets.{cell_in}

-- what the squares of a rank hold, from file a to file h
unfoldable pub rank_cells : Sets → ℕ → List Cell
rank_cells s rank = map (cell_in s) (range_with_len (8 * rank) 8)
