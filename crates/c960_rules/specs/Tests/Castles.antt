-- Castling, as a test that computes.
use Rattle.std.specs.Prelude.{ℕ, Bool, true, false, ◌&&◌, ◌||◌, ◌==◌, not, is_none}
use Rattle.std.specs.List.{list_all}
use Rattle.c960_board.specs.declared.piece.Kind.TheVariants.{King}
use Rattle.c960_board.specs.declared.parts.Parts.{Parts}
use Rattle.c960_board.specs.Squares.{file_of, home_square}
use Rattle.c960_board.specs.Pieces.{other, holds}
use Rattle.c960_board.specs.Cells.{cell_at, has_right}
use Rattle.c960_board.specs.Moves.{Triple}
use Rattle.c960_rules.specs.Lines.{squares}
use Rattle.c960_rules.specs.Tests.Attacks.{attacked_by}
use Rattle.c960_rules.specs.Tests.Reaches.{is_empty}
use Rattle.c960_rules.specs.Castles.{king_goal, on_way, spans}

unfoldable pub may_castle : Parts → Triple → Bool
may_castle p m =
    holds p.turn King (cell_at p.placement m.from)
    && ((m.to == home_square p.turn (file_of m.to)) && (has_right p.rights p.turn (file_of m.to) && is_none m.promotion))

-- a square of the two ways is vacant, if it is not the king's or the rook's
unfoldable pub is_vacant : Parts → Triple → ℕ → Bool
is_vacant p m u = not (on_way p.turn m u) || ((u == m.from) || ((u == m.to) || is_empty p.placement u))

-- a square of the king's way is not attacked
unfoldable pub is_safe : Parts → Triple → ℕ → Bool
is_safe p m u = elim (spans m.from (king_goal p.turn m) u) [ true ↦ not (attacked_by p.placement (other p.turn) u) | false ↦ true ]

unfoldable pub castles : Parts → Triple → Bool
castles p m =
    elim (may_castle p m) [
      | false ↦ false
      | true ↦ elim (list_all (is_vacant p m) squares) [ false ↦ false | true ↦ list_all (is_safe p m) squares ]
    ]
