-- Sets with one square more: the contracts of `Sets::empty` and `Sets::add` use them.
use Rattle.std.specs.Prelude.{ℕ, Bool, true, false, ◌^◌, bit_or}
use Rattle.c960_board.specs.declared.piece.Colour.TheVariants.{White, Black}
use Rattle.c960_board.specs.declared.piece.Kind.TheVariants.{Pawn, Knight, Bishop, Rook, Queen, King}
use Rattle.c960_board.specs.declared.piece.Piece.{Piece}
use Rattle.c960_board.specs.declared.sets.Sets.{Sets}
use Rattle.c960_board.specs.Pieces.{same_colour, same_kind}

-- no square in any set
abbrev pub empty_sets : Sets
empty_sets =
    record {
      white = 0;
      black = 0;
      pawns = 0;
      knights = 0;
      bishops = 0;
      rooks = 0;
      queens = 0;
      kings = 0;
    }

-- the set with the square, if the square belongs there
abbrev pub set_with : Bool → ℕ → ℕ → ℕ
set_with true square set = bit_or set (2 ^ square)
set_with false square set = set

-- the sets with the square of a piece: it belongs to that of its colour and to that of its kind
abbrev pub sets_with : Piece → ℕ → Sets → Sets
sets_with piece square s =
    record {
      white = set_with (same_colour piece.colour White) square s.white;
      black = set_with (same_colour piece.colour Black) square s.black;
      pawns = set_with (same_kind piece.kind Pawn) square s.pawns;
      knights = set_with (same_kind piece.kind Knight) square s.knights;
      bishops = set_with (same_kind piece.kind Bishop) square s.bishops;
      rooks = set_with (same_kind piece.kind Rook) square s.rooks;
      queens = set_with (same_kind piece.kind Queen) square s.queens;
      kings = set_with (same_kind piece.kind King) square s.kings;
    }
