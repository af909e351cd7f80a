use Rattle.std.proofs.Common.{sym}
use Rattle.c960_board.proofs.Reading.RightsText.{letter_again}
use Rattle.c960_board.proofs.fen.rights.read_letters.Goals as goal

pub returns-then-has : goal.returns-then-has
returns-then-has c =
    letter_again c.args.text.now c.loop-byte.byte-index c.loop-byte.rights c.in_ok-colour.colour c.in_ok-colour.file
    c.loop-byte.invariant c.loop-byte-test.true
    c.in_ok-colour.ensures.0 c.in_ok-colour.ensures.1 (sym c.if-has.ensures)
