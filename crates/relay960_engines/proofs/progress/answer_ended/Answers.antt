use Rattle.std.proofs.Common.{rules, ◌≡◌, ◌∙◌, sym}
use Rattle.relay960_engines.specs.Inner.Taking.{kept_behind}
use Rattle.relay960_engines.proofs.PieceFacts.{behind_none}
use Rattle.relay960_engines.proofs.progress.answer_ended.Goals as goal

pub returns-then-is_empty-clause-sent : goal.returns-then-is_empty-clause-sent
returns-then-is_empty-clause-sent g c =
    let whole : c.front.result.now ≡ kept_behind c.args.begun.now c.args.piece.now =
    c.front.ensures ∙ sym (behind_none c.args.begun.now c.args.piece.now (search rules)) in
    rw whole at c.speak.ensures.sent

pub returns-then-is_empty-clause-failed : goal.returns-then-is_empty-clause-failed
returns-then-is_empty-clause-failed g c =
    let whole : c.front.result.now ≡ kept_behind c.args.begun.now c.args.piece.now =
    c.front.ensures ∙ sym (behind_none c.args.begun.now c.args.piece.now (search rules)) in
    rw whole at c.speak.ensures.failed
