use Rattle.std.proofs.Common.{sym, ◌∙◌}
use Rattle.relay_service.proofs.Taking.{answered_as, failed_as, nothing_taken, tells_opening}
use Rattle.relay_service.proofs.connection.Connection.answer.Goals as goal

pub take_up-requires : goal.take_up-requires
take_up-requires c =
    let h = c.answer_next-answered in
    record {
      told = λ is. tells_opening (λ d k g l e answers. (c.what_is_handed_over_was_told.ensures d k g l e answers).0) c.args.self.now h.new.self h.result.0 h.result.1 c.args.hall.now h.new.hall h.ensures.ok h.ensures.none (sym c.is_ok.ensures.value ∙ is);
      untaken = nothing_taken c.args.self.now h.new.self h.result.0 h.result.1 c.args.hall.now h.new.hall h.ensures.ok h.ensures.err h.ensures.none;
    }

pub returns-clause-ok : goal.returns-clause-ok
returns-clause-ok c =
    let h = c.answer_next-answered in
    answered_as h.new.self c.take_up.new.self c.is_ok.result h.result.1 c.of-what.result.value c.args.hall.now h.new.hall c.of-what.ensures c.take_up.ensures c.args.self.now h.result.0 c.is_ok.ensures.value h.ensures.ok

pub returns-clause-err : goal.returns-clause-err
returns-clause-err c =
    let h = c.answer_next-answered in
    failed_as h.new.self c.take_up.new.self c.is_ok.result h.result.1 c.of-what.result.value c.args.hall.now h.new.hall c.of-what.ensures c.take_up.ensures c.args.self.now h.result.0 c.is_ok.ensures.value h.ensures.err
