use Rattle.c960_board.proofs.Reading.RightsText.{SpellsSoFar}
use Rattle.c960_board.proofs.fen.rights.read_letters.Given as goal

abbrev pub invariant-loop-byte : goal.invariant-loop-byte
invariant-loop-byte l = SpellsSoFar l.text l.byte-index l.rights
