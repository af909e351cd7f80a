-- Sets of squares as numbers: bit s of a set, counted from the lowest, is 1 if the square s is in the set.
use Rattle.std.specs.Prelude.{ℕ, ◌==◌, Bool, true, false, List, Option, Some, None, map}
use Rattle.std.specs.Int.{bit_at}
use Rattle.std.specs.List.{range_with_len}
use Rattle.std.specs.Simd.Lanes.{mask_l}
use Rattle.c960_board.specs.declared.piece.Colour.{Colour}
use Rattle.c960_board.specs.declared.piece.Colour.TheVariants.{White, Black}
use Rattle.c960_board.specs.declared.piece.Kind.{Kind}
use Rattle.c960_board.specs.declared.piece.Kind.TheVariants.{Pawn, Knight, Bishop, Rook, Queen, King}
use Rattle.c960_board.specs.declared.rights.CastlingRights.{CastlingRights}
use Rattle.c960_board.specs.declared.parts.Parts.{Parts}
use Rattle.c960_board.specs.declared.sets.Sets.{Sets}
use Rattle.c960_board.specs.Pieces.{Cell, man, same_kind, is_of}

-- whether the square holds a piece of the kind
abbrev pub is_kind : Kind → Cell → Bool
is_kind k None = false
is_kind k (Some p) = same_kind p.kind k

-- whether the square holds a piece
abbrev pub is_occupied : Cell → Bool
is_occupied None = false
is_occupied (Some p) = true

-- the squares whose cells pass the test
unfoldable pub set_of : (Cell → Bool) → List Cell → ℕ
set_of test cells = mask_l (map test cells)

-- the sets of a placement
abbrev pub sets_of : List Cell → Sets
sets_of cells =
    record {
      white = set_of (is_of White) cells;
      black = set_of (is_of Black) cells;
      pawns = set_of (is_kind Pawn) cells;
      knights = set_of (is_kind Knight) cells;
      bishops = set_of (is_kind Bishop) cells;
      rooks = set_of (is_kind Rook) cells;
      queens = set_of (is_kind Queen) cells;
      kings = set_of (is_kind King) cells;
    }

-- the set of a colour
abbrev pub colour_set : Colour → Sets → ℕ
colour_set White s = s.white
colour_set Black s = s.black

-- the set of a kind
abbrev pub kind_set : Kind → Sets → ℕ
kind_set Pawn s = s.pawns
kind_set Knight s = s.knights
kind_set Bishop s = s.bishops
kind_set Rook s = s.rooks
kind_set Queen s = s.queens
kind_set King s = s.kings

-- ---- Back from the sets to the cells.

-- whether the square is in the set
abbrev pub is_in : ℕ → ℕ → Bool
is_in set s = bit_at set s == 1

-- the kind, by the first set that has the square
abbrev pub kind_by : Bool → Bool → Bool → Bool → Bool → Kind
kind_by true n b r q = Pawn
kind_by false true b r q = Knight
kind_by false false true r q = Bishop
kind_by false false false true q = Rook
kind_by false false false false true = Queen
kind_by false false false false false = King

abbrev pub kind_in : Sets → ℕ → Kind
kind_in s u = kind_by (is_in s.pawns u) (is_in s.knights u) (is_in s.bishops u) (is_in s.rooks u) (is_in s.queens u)

-- the cell, by its colour
abbrev pub cell_by : Bool → Bool → Kind → Cell
cell_by true b k = man White k
cell_by false true k = man Black k
cell_by false false k = None

abbrev pub cell_in : Sets → ℕ → Cell
cell_in s u = cell_by (is_in s.white u) (is_in s.black u) (kind_in s u)

-- what each square holds
unfoldable pub cells_of : Sets → List Cell
cells_of s = map (cell_in s) (range_with_len 0 64)

-- the parts of a position whose placement is given by sets
abbrev pub parts_of : Sets → Colour → CastlingRights → Option ℕ → ℕ → ℕ → Parts
parts_of s turn rights target half_moves number =
    record {
      placement = cells_of s;
      turn = turn;
      rights = rights;
      target = target;
      half_moves = half_moves;
      number = number;
    }
