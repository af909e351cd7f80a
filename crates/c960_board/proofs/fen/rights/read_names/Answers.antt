use Rattle.std.proofs.Common.{rules}
use Rattle.c960_board.proofs.Reading.RightsText.{named_by_letters}
use Rattle.c960_board.proofs.fen.rights.read_names.Goals as goal

pub returns : goal.returns
returns c = named_by_letters c.read_letters.result c.args.text.now (λ e. absurd (search rules)) c.read_letters.ensures
