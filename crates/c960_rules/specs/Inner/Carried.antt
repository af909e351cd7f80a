-- The sets of a placement as a move changes them: the pieces that it removes from squares, and the piece that it puts on a goal.
use Rattle.std.specs.Prelude.{ℕ, ◌*◌, ◌^◌, ◌%◌, Bool, bit_and, bit_or}
use Rattle.std.specs.Int.{bit_not, w64}
use mir.Val.{bool_byte}
use Rattle.c960_board.specs.declared.piece.Colour.TheVariants.{White, Black}
use Rattle.c960_board.specs.declared.piece.Kind.TheVariants.{Pawn, Knight, Bishop, Rook, Queen, King}
use Rattle.c960_board.specs.declared.sets.Sets.{Sets}
use Rattle.c960_board.specs.Pieces.{Cell, is_of}
use Rattle.c960_board.specs.Sets.{is_kind, is_in}

-- each set, changed according to the test that it is the set of
abbrev pub each_set : ((Cell → Bool) → ℕ → ℕ) → Sets → Sets
each_set f s =
    record {
      white = f (is_of White) s.white;
      black = f (is_of Black) s.black;
      pawns = f (is_kind Pawn) s.pawns;
      knights = f (is_kind Knight) s.knights;
      bishops = f (is_kind Bishop) s.bishops;
      rooks = f (is_kind Rook) s.rooks;
      queens = f (is_kind Queen) s.queens;
      kings = f (is_kind King) s.kings;
    }

-- without the pieces on these squares
abbrev pub taken_off : ℕ → Sets → Sets
taken_off gone s = each_set (λ test set. bit_and set (bit_not w64 gone)) s

-- with the contents of the cell on a square
abbrev pub put_on : Cell → ℕ → Sets → Sets
put_on cell k s = each_set (λ test set. bit_or set (bool_byte (test cell) * 2 ^ k % 2 ^ 64)) s

-- a set without the squares that change, and with the goal if it had the square that is left
abbrev pub carried : ℕ → ℕ → ℕ → ℕ → ℕ
carried changed from to set = bit_or (bit_and set (bit_not w64 changed)) (bool_byte (is_in set from) * 2 ^ to % 2 ^ 64)

-- each set so
abbrev pub all_carried : ℕ → ℕ → ℕ → Sets → Sets
all_carried changed from to s = each_set (λ test set. carried changed from to set) s
