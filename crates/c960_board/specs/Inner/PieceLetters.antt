-- The letters of the pieces on the occupied squares, by the bits of a number for each kind: the contracts of
-- src/fen/letters.rt use them, and those of src/fen/shape.rt the digits.
use Rattle.std.specs.Prelude.{ℕ, zero, suc, ◌≡◌, ◌<◌, ◌+◌, ◌*◌, ◌/◌, ◌%◌, ◌^◌, Bool, true, false}
use Rattle.c960_board.specs.declared.fen.letters.Letters.{Letters}
use Rattle.c960_board.specs.declared.fen.letters.RankLetters.{RankLetters}
use Rattle.c960_board.specs.declared.piece.Colour.{Colour}
use Rattle.c960_board.specs.declared.piece.Colour.TheVariants.{White, Black}
use Rattle.c960_board.specs.declared.piece.Kind.{Kind}
use Rattle.c960_board.specs.declared.piece.Kind.TheVariants.{Pawn, Knight, Bishop, Rook, Queen, King}
use Rattle.c960_board.specs.declared.piece.Piece.{Piece}
use Rattle.c960_board.specs.declared.sets.Sets.{Sets}
use Rattle.c960_board.specs.Fen.Letters.{letter, letter_of}
use Rattle.c960_board.specs.Sets.{is_in, kind_in}

-- Black's if it is not White's
abbrev pub colour_by : Bool → Colour
colour_by true = White
colour_by false = Black

-- the kind of a number from 0 to 5, by its fours, its twos and its ones
abbrev pub kind_numbered : Bool → Bool → Bool → Kind
kind_numbered false false false = Pawn
kind_numbered false false true = Knight
kind_numbered false true false = Bishop
kind_numbered false true true = Rook
kind_numbered true false false = Queen
kind_numbered true false true = King
kind_numbered true true ones = King

-- the letter of the piece on an occupied square
abbrev pub letter_on : Letters → ℕ → ℕ
letter_on l u = letter_of (colour_by (is_in l.white u)) (kind_numbered (is_in l.fours u) (is_in l.twos u) (is_in l.ones u))

-- the number whose digits to the base 16, from the lowest on, are the first of a sequence
unfoldable pub digits : (ℕ → ℕ) → ℕ → ℕ
digits d zero = 0
digits d (suc n) = d 0 + 16 * digits (λ i. d (suc i)) n

-- the letter of a number of four bits: three of the kind, and the colour's
abbrev pub letter_numbered : ℕ → ℕ
letter_numbered n = letter_of (colour_by (is_in n 3)) (kind_numbered (is_in n 2) (is_in n 1) (is_in n 0))

-- the letter of the piece on an occupied square of a rank
abbrev pub letter_in : RankLetters → ℕ → ℕ
letter_in r file = letter_numbered (r.codes / 2 ^ (4 * file) % 16)

-- the piece on an occupied square
abbrev pub piece_in : Sets → ℕ → Piece
piece_in s u = record { colour = colour_by (is_in s.white u); kind = kind_in s u }

-- these letters are those of the pieces in the sets
abbrev pub AreLettersOf : Sets → Letters → Type 0
AreLettersOf s l = (u : ℕ) → u < 64 → letter_on l u ≡ letter (piece_in s u)
