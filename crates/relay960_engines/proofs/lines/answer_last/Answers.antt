use Rattle.std.proofs.Common.{rules}
use Rattle.std.proofs.KnownBytes.{Appends-nil}
use Rattle.relay960_engines.proofs.AnswerFacts.{passed_on}
use Rattle.relay960_engines.proofs.LineFacts.{last_line-none, last_line-whole}
use Rattle.relay960_engines.proofs.SendingFacts.{unsettled_answers}
use Rattle.relay960_engines.proofs.AnsweredFacts.{Answered-nil}
use Rattle.relay960_engines.proofs.lines.answer_last.Goals as goal

pub returns-then-is_empty-clause-wrote : goal.returns-then-is_empty-clause-wrote
returns-then-is_empty-clause-wrote g c =
    rw (last_line-none c.args.progress.now.line (search rules)) (Answered-nil _ _ (Appends-nil _))

pub returns-in_err-send-clause-failed : goal.returns-in_err-send-clause-failed
returns-in_err-send-clause-failed g c =
    passed_on _ _ _ c.from_residual-in_err-send.ensures.1 (rw (last_line-whole c.args.progress.now.line (search rules))
    (unsettled_answers _ _ _ _ _ _ _ _ (rw (c.as_slice.ensures, c.new-due.ensures) at c.in_ok-speak.ensures.sent)
    c.in_err-send.ensures.fault c.in_err-send.ensures.part))
