use Rattle.std.proofs.Common.{◌≡◌, append_assoc, rules}
use Rattle.c960_board.specs.Fen.Canonical.{canonical}
use Rattle.relay_messages.proofs.board_summary.encode_board.Goals as goal

pub returns : goal.returns
returns c =
    let fen : c.unwrap-fen.result.now ≡ canonical c.args.summary.now.position = search rules in
    rw fen at (simp append_assoc at c.format.ensures.ok)
