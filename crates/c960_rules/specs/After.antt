-- The position after a legal move (FIDE Laws, Articles 3.1, 3.7 and 3.8.2; Guidelines II.3). The half-move counter serves
-- Article 9.3, the move number is that of the written position.
use Rattle.std.specs.Prelude.{ℕ, ◌+◌, List, Bool, true, false, ◌&&◌, ◌||◌, ◌==◌, not, Option, Some, None, map}
use Rattle.std.specs.List.{range_with_len}
use Rattle.c960_board.specs.declared.piece.Colour.{Colour}
use Rattle.c960_board.specs.declared.piece.Colour.TheVariants.{White, Black}
use Rattle.c960_board.specs.declared.piece.Kind.{Kind}
use Rattle.c960_board.specs.declared.piece.Kind.TheVariants.{Pawn, King}
use Rattle.c960_board.specs.declared.parts.Parts.{Parts}
use Rattle.c960_board.specs.Squares.{home_square, ahead}
use Rattle.c960_board.specs.Pieces.{Cell, other, is_of, holds}
use Rattle.c960_board.specs.Cells.{cell_at, has_right}
use Rattle.c960_board.specs.Moves.{Triple}
use Rattle.c960_rules.specs.Lines.{squares, same_file, rank_distance}
use Rattle.c960_rules.specs.Reaches.{is_target}
use Rattle.c960_rules.specs.Castles.{king_goal, rook_goal}

-- ---- The placement, square by square.

-- the piece that arrives on the goal: the mover, or what a pawn is promoted to
abbrev pub landed : Cell → Option Kind → Cell
landed cell None = cell
landed None (Some k) = None
landed (Some p) (Some k) = Some (record { colour = p.colour; kind = k })

-- a pawn of a legal move goes diagonally to the target
unfoldable pub is_en_passant : Parts → Triple → Bool
is_en_passant p m =
    holds p.turn Pawn (cell_at p.placement m.from) && (is_target p.target m.to && not (same_file m.from m.to))

-- after an ordinary move; a pawn that is taken en passant is one square behind the goal, from its taker's point of view
unfoldable pub cell_moved : Parts → Triple → ℕ → Cell
cell_moved p m u =
    elim (u == m.to) [
      | true ↦ landed (cell_at p.placement m.from) m.promotion
      | false ↦ elim ((u == m.from) || (is_en_passant p m && (u == ahead (other p.turn) m.to))) [
        | true ↦ None
        | false ↦ cell_at p.placement u
      ]
    ]

-- after castling: either piece may already be on its goal
unfoldable pub cell_castled : Parts → Triple → ℕ → Cell
cell_castled p m u =
    elim (u == king_goal p.turn m) [
      | true ↦ cell_at p.placement m.from
      | false ↦ elim (u == rook_goal p.turn m) [
        | true ↦ cell_at p.placement m.to
        | false ↦ elim ((u == m.from) || (u == m.to)) [ true ↦ None | false ↦ cell_at p.placement u ]
      ]
    ]

-- a legal move onto a piece of the mover's own side is castling, since no ordinary move ends there
unfoldable pub cell_after : Parts → Triple → ℕ → Cell
cell_after p m u =
    elim (is_of p.turn (cell_at p.placement m.to)) [ true ↦ cell_castled p m u | false ↦ cell_moved p m u ]

unfoldable pub placement_after : Parts → Triple → List Cell
placement_after p m = map (cell_after p m) squares

-- ---- The rest.

-- a right is lost if its king moves, and if a move is from or to the square of its rook
unfoldable pub keeps_right : Parts → Triple → Colour → ℕ → Bool
keeps_right p m c f =
    has_right p.rights c f && (not (holds c King (cell_at p.placement m.from))
    && (not (m.from == home_square c f) && not (m.to == home_square c f)))

abbrev pub rights_after : Parts → Triple → Colour → List Bool
rights_after p m c = map (keeps_right p m c) (range_with_len 0 8)

-- a pawn of a legal move goes two squares forward
abbrev pub is_double_step : Parts → Triple → Bool
is_double_step p m = holds p.turn Pawn (cell_at p.placement m.from) && (rank_distance m.from m.to == 2)

-- the square passed over by a double step
unfoldable pub target_after : Parts → Triple → Option ℕ
target_after p m = elim (is_double_step p m) [ true ↦ Some (ahead p.turn m.from) | false ↦ None ]

-- a pawn moves, or a piece is taken (including en passant)
unfoldable pub half_moves_after : Parts → Triple → ℕ
half_moves_after p m =
    elim (holds p.turn Pawn (cell_at p.placement m.from) || is_of (other p.turn) (cell_at p.placement m.to)) [
      | true ↦ 0
      | false ↦ p.half_moves + 1
    ]

-- the move number rises after Black's move
abbrev pub number_after : Colour → ℕ → ℕ
number_after White n = n
number_after Black n = n + 1

unfoldable pub after : Parts → Triple → Parts
after p m =
    record {
      placement = placement_after p m;
      turn = other p.turn;
      rights = record { white = rights_after p m White; black = rights_after p m Black };
      target = target_after p m;
      half_moves = half_moves_after p m;
      number = number_after p.turn p.number;
    }
