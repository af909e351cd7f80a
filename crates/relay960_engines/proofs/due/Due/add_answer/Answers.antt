use Rattle.std.proofs.Common.{◌≡◌, rules}
use Rattle.relay_messages.specs.Answers.{answer_text}
use Rattle.relay960_engines.specs.Writing.{line}
use Rattle.relay960_engines.proofs.Prefixes.{part_before, on_err_known}
use Rattle.relay960_engines.proofs.due.Due.add_answer.Goals as goal

pub returns-in_err-send-clause-part : goal.returns-in_err-send-clause-part
returns-in_err-send-clause-part g c =
    let kept : c.put_line.new.self ≡ c.args.self.now = search rules in
    on_err_known _ (part_before _ _ c.args.self.now (line (answer_text c.args.answer.now)) (rw kept at c.in_err-send.ensures.part))
