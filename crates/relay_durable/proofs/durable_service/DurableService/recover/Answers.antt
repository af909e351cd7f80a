use Rattle.std.proofs.Common.{ap, length, subst, sym}
use Rattle.relay_hall.specs.Record.{FloorRecord, HallRecord}
use Rattle.relay_journal.specs.Writing.{IsWritten}
use Rattle.relay_service.specs.Record.{ServiceRecord}
use Rattle.relay_service.specs.Resumed.{IsResumed}
use Rattle.relay_durable.proofs.durable_service.DurableService.recover.Goals as goal

pub invariant_of-result : goal.invariant_of-result
invariant_of-result g c = λ sound.
    let j = c.requires.journal in
    subst (λ (f : FloorRecord). IsWritten g.S.StableStorage.contents g.S.StableStorage.synced c.in_ok-hall.scribe f)
    (sym (ap (λ (s : ServiceRecord). s.hall.floor) c.resume.ensures.2)) (c.in_ok-hall.ensures.written j.first j.others j.said j.holds)

pub returns-clause-resumed : goal.returns-clause-resumed
returns-clause-resumed g c =
    subst (λ (k : HallRecord). IsResumed c.args.limits c.args.grace (length c.args.entries.now) c.args.takes_keys k c.resume.result)
    (sym (ap (λ (s : ServiceRecord). s.hall) c.resume.ensures.2)) c.resume.ensures
