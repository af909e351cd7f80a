use Rattle.std.proofs.Common.{◌∙◌}
use Rattle.relay960.proofs.Meeting.{met_or_failed}
use Rattle.relay960.proofs.serving.service.serve_loops.Goals as goal

pub returns : goal.returns
returns g c =
    met_or_failed c.args.service.now.connections c.args.service.now.until_input_ends c.args.port.most c.attend-ended.result.0
    c.or_journal_fault.result c.requires.most c.or_journal_fault.ensures c.attend-ended.ensures.most (λ stays. c.attend-ended.ensures.all (c.requires.ends ∙ stays))
