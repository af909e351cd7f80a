use Rattle.std.proofs.Common.{◌∷◌, [], Option, sym, subst}
use Rattle.std.proofs.lemmas.Result.{on_ok_weaker}
use Rattle.relay_journal.specs.declared.entry.Entry.TheVariants.{Opens}
use Rattle.relay_journal.specs.declared.noted.Noted.{Noted}
use Rattle.relay_journal.specs.Behind.{behind_noted, behind_one, kept_shown}
use Rattle.relay_journal.specs.Kept.{new_kept}
use Rattle.relay_journal.specs.Scribes.{noted_of}
use Rattle.relay_journal.specs.Writing.{AreNoted}
use Rattle.relay_journal.proofs.Written.{noted_then}
use Rattle.relay_journal.proofs.writing.note_board.Goals as goal

pub returns-in_default-clause-noted : goal.returns-in_default-clause-noted
returns-in_default-clause-noted g c =
    let shown = c.args.shown.now in
    on_ok_weaker c.note_behind.result
    (λ rest. subst (λ (o : Option Noted). AreNoted g.S.StableStorage.contents g.S.StableStorage.synced c.args.journal.now c.note_behind.new.journal (behind_one (kept_shown shown) o))
    (sym c.in_default.is)
    (noted_then g.S.StableStorage.contents g.S.StableStorage.synced c.args.journal.now c.note_open.new.journal c.note_behind.new.journal
    (Opens shown.name shown.game.start shown.owner.key ∷ []) (behind_noted (kept_shown shown) (noted_of (new_kept shown.game.start shown.owner.key)))
    c.in_ok-note_open.ensures.noted rest))
    c.note_behind.ensures.noted
