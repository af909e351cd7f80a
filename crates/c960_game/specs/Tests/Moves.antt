-- A test of legality that is defined for every triple.
use Rattle.std.specs.Prelude.{Bool, ◌&&◌, nat_lt}
use Rattle.c960_board.specs.declared.parts.Parts.{Parts}
use Rattle.c960_board.specs.Moves.{Triple, is_promotion}
use Rattle.c960_rules.specs.Tests.Legal.{is_legal}

-- squares of the board, and no promotion to a pawn or a king
abbrev pub is_move : Triple → Bool
is_move m = nat_lt m.from 64 && (nat_lt m.to 64 && is_promotion m.promotion)

-- the triple is a move, and it is legal
unfoldable pub is_legal_move : Parts → Triple → Bool
is_legal_move p m = is_move m && is_legal p m
