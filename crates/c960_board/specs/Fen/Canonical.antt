-- The one text of a position that is written.
use Rattle.std.specs.Prelude.{ℕ, zero, suc, ◌+◌, ◌*◌, List, [], ◌∷◌, ◌++◌, Some, None, cond, take, drop, decimal}
use Rattle.c960_board.specs.declared.piece.Colour.{Colour}
use Rattle.c960_board.specs.declared.piece.Colour.TheVariants.{White, Black}
use Rattle.c960_board.specs.declared.rights.CastlingRights.{CastlingRights}
use Rattle.c960_board.specs.declared.parts.Parts.{Parts}
use Rattle.c960_board.specs.Pieces.{Cell}
use Rattle.c960_board.specs.Cells.{has_right}
use Rattle.c960_board.specs.Fen.Letters.{letter, turn_text, right_letter, dash}
use Rattle.c960_board.specs.Fen.Fields.{Six, joined}
use Rattle.c960_board.specs.Fen.Target.{target_text}

-- the digit of a run of empty squares
abbrev pub run_text : ℕ → List ℕ
run_text zero = []
run_text (suc n) = (48 + suc n) ∷ []

-- the text of the rest of a rank, after n empty squares that have just been passed and not yet written
unfoldable pub squares_text : List Cell → ℕ → List ℕ
squares_text [] n = run_text n
squares_text (None ∷ cells) n = squares_text cells (n + 1)
squares_text (Some p ∷ cells) n = run_text n ++ letter p ∷ squares_text cells 0

-- the cells of the ranks 1 to n + 1, the highest rank first, separated by slashes
unfoldable pub ranks_text : ℕ → List Cell → List ℕ
ranks_text zero cells = squares_text cells 0
ranks_text (suc n) cells = squares_text (drop (8 * suc n) cells) 0 ++ 47 ∷ ranks_text n (take (8 * suc n) cells)

-- the letters of a side's rights on the files below n, the higher file first
unfoldable pub side_text : CastlingRights → Colour → ℕ → List ℕ
side_text r c zero = []
side_text r c (suc n) = cond (has_right r c n) (right_letter c n ∷ side_text r c n) (side_text r c n)

-- a dash if there is nothing to write
abbrev pub or_dash : List ℕ → List ℕ
or_dash [] = dash
or_dash (b ∷ bs) = b ∷ bs

-- White's rights and then Black's
unfoldable pub rights_text : CastlingRights → List ℕ
rights_text r = or_dash (side_text r White 8 ++ side_text r Black 8)

unfoldable pub fields_of : Parts → Six
fields_of p =
    record {
      placement = ranks_text 7 p.placement;
      turn = turn_text p.turn;
      rights = rights_text p.rights;
      target = target_text p.target;
      half_moves = decimal p.half_moves;
      number = decimal p.number;
    }

unfoldable pub canonical : Parts → List ℕ
canonical p = joined (fields_of p)
