-- What a placement has on a square, and which rights a side has.
use Rattle.std.specs.Prelude.{ℕ, List, None, Bool, false, slice_index_or}
use Rattle.c960_board.specs.declared.piece.Colour.{Colour}
use Rattle.c960_board.specs.declared.piece.Colour.TheVariants.{White, Black}
use Rattle.c960_board.specs.declared.rights.CastlingRights.{CastlingRights}
use Rattle.c960_board.specs.Pieces.{Cell}

-- what a square of a placement holds: nothing beyond the last square
abbrev pub cell_at : List Cell → ℕ → Cell
cell_at cells s = slice_index_or cells s None

-- for each file from a, whether the side may still castle with the rook of that file
abbrev pub rights_of : CastlingRights → Colour → List Bool
rights_of r White = r.white
rights_of r Black = r.black

-- the right of a side to castle with the rook of that file: none from file 8 on
abbrev pub has_right : CastlingRights → Colour → ℕ → Bool
has_right r c f = slice_index_or (rights_of r c) f false
