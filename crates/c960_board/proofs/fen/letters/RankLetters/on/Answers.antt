use Rattle.std.proofs.Common.{◌*◌, ◌/◌, ◌^◌}
use Rattle.c960_board.proofs.Written.PieceLetters.{letter_entry}
use Rattle.c960_board.proofs.fen.letters.RankLetters.on.Goals as goal

pub returns : goal.returns
returns c = letter_entry (c.args.self.now.codes / 2 ^ (4 * c.args.file))
