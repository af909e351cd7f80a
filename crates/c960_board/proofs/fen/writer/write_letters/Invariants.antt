use Rattle.std.proofs.Common.{◌≡◌}
use Rattle.c960_board.specs.Inner.PieceLetters.{letter_in}
use Rattle.c960_board.specs.Inner.RankShape.{place_of, with_letters}
use Rattle.c960_board.proofs.fen.writer.write_letters.Given as goal

abbrev pub invariant-loop-file : goal.invariant-loop-file
invariant-loop-file l = l.bytes ≡ with_letters (place_of l.files) (letter_in l.pieces) l.at l.file l.fn.bytes
