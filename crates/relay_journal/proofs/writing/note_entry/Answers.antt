use Rattle.std.proofs.Common.{subst, sym}
use Rattle.std.proofs.lemmas.Result.{on_ok_weaker}
use Rattle.relay_journal.specs.Bodies.{IsBody}
use Rattle.relay_journal.proofs.Written.{one_noted}
use Rattle.relay_journal.proofs.writing.note_entry.Goals as goal

pub returns-clause-noted : goal.returns-clause-noted
returns-clause-noted g c = λ key.
    on_ok_weaker c.note.result
    (λ lines. one_noted g.S.StableStorage.contents g.S.StableStorage.synced c.args.journal.now c.note.new.self _ c.args.entry.now
    (subst (λ b. IsBody b c.args.entry.now) (sym c.deref.ensures.value) (c.in_ok-body.ensures key)) c.note.ensures.storage lines)
    c.note.ensures.noted
