use Rattle.std.proofs.lemmas.Result.{on_ok_weaker}
use Rattle.relay_journal.proofs.Written.{begun}
use Rattle.relay_journal.proofs.scribe.begin.Goals as goal

pub returns-clause-begun : goal.returns-clause-begun
returns-clause-begun g c =
    on_ok_weaker c.note.result
    (λ lines. begun g.S.StableStorage.contents g.S.StableStorage.synced c.args.journal.now c.note.new.self c.note.ensures.storage lines)
    c.note.ensures.noted
