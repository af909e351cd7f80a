use Rattle.std.proofs.Common.{subst, sym}
use Rattle.std.specs.Prelude.{OnOk}
use Rattle.relay_journal.specs.Inner.{scribe_of}
use Rattle.relay_journal.specs.Kept.{kept_of}
use Rattle.relay_journal.specs.Writing.{IsWritten}
use Rattle.relay_journal.proofs.Going.{all_stay, apart_before, onward, rows_apart}
use Rattle.relay_journal.proofs.Noting.{missing_fit, nothing_fits}
use Rattle.relay_journal.proofs.Written.{written_if_noted}
use Rattle.relay_journal.proofs.scribe.Scribe.note.Goals as goal

pub returns-clause-event : goal.returns-clause-event
returns-clause-event g c = λ k e t step was.
    written_if_noted g.S.StableStorage.contents g.S.StableStorage.synced c.note_missing-noted.result (scribe_of c.self-2.inside) c.is_err-self-inside.result c.args.hall.now.floor
    c.is_err-self-inside.ensures.value
    (subst (λ s. OnOk c.note_missing-noted.result (IsWritten g.S.StableStorage.contents g.S.StableStorage.synced s c.args.hall.now.floor)) (sym c.self-2.view_is)
    (let on = onward k e t c.args.hall.now step in
    let apart = apart_before k.floor.boards c.args.hall.now.floor.boards on (rows_apart c.args.hall.now c.note_missing-noted.ensures.reached) in
    c.note_missing-noted.ensures.onward k.floor on (missing_fit k apart e t c.args.hall.now step) was))

pub returns-clause-nothing : goal.returns-clause-nothing
returns-clause-nothing g c = λ was.
    written_if_noted g.S.StableStorage.contents g.S.StableStorage.synced c.note_missing-noted.result (scribe_of c.self-2.inside) c.is_err-self-inside.result c.args.hall.now.floor
    c.is_err-self-inside.ensures.value
    (subst (λ s. OnOk c.note_missing-noted.result (IsWritten g.S.StableStorage.contents g.S.StableStorage.synced s c.args.hall.now.floor)) (sym c.self-2.view_is)
    (c.note_missing-noted.ensures.onward c.args.hall.now.floor (all_stay (kept_of c.args.hall.now.floor))
    (nothing_fits c.args.hall.now.floor) was))
