use Rattle.std.proofs.Common.{refl, List, subst}
use Rattle.relay_journal.specs.declared.noted.Noted.{Noted}
use Rattle.relay_journal.specs.Behind.{behind_all}
use Rattle.relay_journal.specs.Kept.{kept_of}
use Rattle.relay_journal.specs.Writing.{AreNoted}
use Rattle.relay_journal.specs.Inner.{scribe_of}
use Rattle.relay_journal.proofs.Going.{reached_apart}
use Rattle.relay_journal.proofs.Written.{written_on}
use Rattle.relay_journal.proofs.scribe.Scribe.note_missing.Goals as goal

pub returns-clause-onward : goal.returns-clause-onward
returns-clause-onward g c = rw (← c.self.view_is) (λ f on fits was.
    written_on g.S.StableStorage.contents g.S.StableStorage.synced (scribe_of c.self.inside) _ f c.args.hall.now.floor
    (reached_apart c.args.hall.now c.note_all.ensures.reached) on fits
    (subst (λ (ns : List Noted). AreNoted g.S.StableStorage.contents g.S.StableStorage.synced c.self.inside.journal c.note_all.new.journal (behind_all ns (kept_of c.args.hall.now.floor)))
    c.deref.ensures.value c.in_ok-note_all.ensures.noted) c.in_ok-keep_noted.ensures refl was)
