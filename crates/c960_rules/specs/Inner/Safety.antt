-- The squares that an ordinary move changes, as sets.
use Rattle.std.specs.Prelude.{ℕ, ◌==◌, Bool, ◌&&◌, ◌||◌, not}
use Rattle.c960_board.specs.declared.parts.Parts.{Parts}
use Rattle.c960_board.specs.Squares.{ahead}
use Rattle.c960_board.specs.Pieces.{other}
use Rattle.c960_board.specs.Cells.{cell_at}
use Rattle.c960_board.specs.Moves.{Triple}
use Rattle.c960_board.specs.Sets.{is_occupied}
use Rattle.c960_rules.specs.After.{is_en_passant}
use Rattle.c960_rules.specs.Castles.{king_goal, rook_goal}

-- u is the square of the pawn that is taken en passant
abbrev pub is_passed_on : Parts → Triple → ℕ → Bool
is_passed_on p m u = is_en_passant p m && (u == ahead (other p.turn) m.to)

-- u is occupied after the move
abbrev pub is_occupied_after : Parts → Triple → ℕ → Bool
is_occupied_after p m u =
    ((is_occupied (cell_at p.placement u) && not (u == m.from)) && not (is_passed_on p m u)) || (u == m.to)

-- the piece on u is taken
abbrev pub is_gone : Parts → Triple → ℕ → Bool
is_gone p m u = (u == m.to) || is_passed_on p m u

-- u holds something else after the move, or may
abbrev pub is_changed : Parts → Triple → ℕ → Bool
is_changed p m u = (u == m.from) || is_gone p m u

-- u is occupied after castling
abbrev pub is_occupied_castled : Parts → Triple → ℕ → Bool
is_occupied_castled p m u =
    ((is_occupied (cell_at p.placement u) && not (u == m.from)) && not (u == m.to))
    || ((u == king_goal p.turn m) || (u == rook_goal p.turn m))
