use Rattle.std.proofs.Common.{◌≡◌, rules}
use Rattle.c960_board.specs.MoveTexts.{move_text}
use Rattle.relay_messages.proofs.answers.moved.Goals as goal

pub returns-clause-put : goal.returns-clause-put
returns-clause-put g c =
    let spelt : c.unwrap-spelt.result.now ≡ move_text c.args.m = search rules in
    rw (spelt, c.format-place.ensures.text) at c.put.ensures
