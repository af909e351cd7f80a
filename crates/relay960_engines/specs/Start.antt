-- The line of a start number.
use Rattle.std.specs.Prelude.{ℕ, nat_lt, List, cond, codes}
use Rattle.c960_board.specs.declared.numbering.TheConstants.{STARTS}
use Rattle.c960_board.specs.Start.{start}
use Rattle.c960_board.specs.Fen.Canonical.{canonical}
use Rattle.relay960_engines.specs.Writing.{line}

-- the line of a number that no start has
abbrev pub refusal_line : List ℕ
refusal_line = line (codes "refused 3 BadStart")

-- the FEN of the starting position if there is one
abbrev pub start_line : ℕ → List ℕ
start_line n = cond (nat_lt n STARTS) (line (canonical (start n))) refusal_line
