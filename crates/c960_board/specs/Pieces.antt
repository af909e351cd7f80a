-- Pieces, and what a square holds.
use Rattle.std.specs.Prelude.{Bool, true, false, ◌&&◌, Option, Some, None}
use Rattle.c960_board.specs.declared.piece.Colour.{Colour}
use Rattle.c960_board.specs.declared.piece.Colour.TheVariants.{White, Black}
use Rattle.c960_board.specs.declared.piece.Kind.{Kind}
use Rattle.c960_board.specs.declared.piece.Kind.TheVariants.{Pawn, Knight, Bishop, Rook, Queen, King}
use Rattle.c960_board.specs.declared.piece.Piece.{Piece}

-- what a square holds: nothing, or a piece
abbrev pub Cell : Type 0
Cell = Option Piece

-- a square that holds that piece
abbrev pub man : Colour → Kind → Cell
man c k = Some (record { colour = c; kind = k })

-- the opponent
abbrev pub other : Colour → Colour
other White = Black
other Black = White

abbrev pub same_colour : Colour → Colour → Bool
same_colour White White = true
same_colour Black Black = true
same_colour White Black = false
same_colour Black White = false

abbrev pub same_kind : Kind → Kind → Bool
same_kind Pawn Pawn = true
same_kind Knight Knight = true
same_kind Bishop Bishop = true
same_kind Rook Rook = true
same_kind Queen Queen = true
same_kind King King = true
same_kind _ _ = false

-- whether the square holds a piece of the colour
abbrev pub is_of : Colour → Cell → Bool
is_of c None = false
is_of c (Some p) = same_colour p.colour c

-- whether the square holds a piece of the colour and the kind
abbrev pub holds : Colour → Kind → Cell → Bool
holds c k None = false
holds c k (Some p) = same_colour p.colour c && same_kind p.kind k
