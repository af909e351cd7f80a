-- The letters of a text: those of the pieces, the sides and the castling rights.
use Rattle.std.specs.Prelude.{ℕ, ◌+◌, ◌-◌, List, [], ◌∷◌}
use Rattle.c960_board.specs.declared.piece.Colour.{Colour}
use Rattle.c960_board.specs.declared.piece.Colour.TheVariants.{White, Black}
use Rattle.c960_board.specs.declared.piece.Kind.{Kind}
use Rattle.c960_board.specs.declared.piece.Kind.TheVariants.{Pawn, Knight, Bishop, Rook, Queen, King}
use Rattle.c960_board.specs.declared.piece.Piece.{Piece}

-- p, n, b, r, q, k
abbrev pub small_letter : Kind → ℕ
small_letter Pawn = 112
small_letter Knight = 110
small_letter Bishop = 98
small_letter Rook = 114
small_letter Queen = 113
small_letter King = 107

-- a capital for White, a small letter for Black
abbrev pub letter_of : Colour → Kind → ℕ
letter_of White k = small_letter k - 32
letter_of Black k = small_letter k

abbrev pub letter : Piece → ℕ
letter p = letter_of p.colour p.kind

-- w or b
abbrev pub turn_text : Colour → List ℕ
turn_text White = 119 ∷ []
turn_text Black = 98 ∷ []

-- the letter of file a in a side's rights
abbrev pub right_base : Colour → ℕ
right_base White = 65
right_base Black = 97

-- A to H for White's rights, a to h for Black's
abbrev pub right_letter : Colour → ℕ → ℕ
right_letter c f = right_base c + f

-- nothing of its kind: a dash
abbrev pub dash : List ℕ
dash = 45 ∷ []
