-- what is missing of the boards before this place was noted
use Rattle.std.proofs.Common.{take}
use Rattle.relay_journal.specs.Behind.{behind_all}
use Rattle.relay_journal.specs.Kept.{kept_of}
use Rattle.relay_journal.specs.Writing.{AreNoted}
use Rattle.relay_journal.proofs.writing.note_all.Given as goal

abbrev pub invariant-loop-at : goal.invariant-loop-at
invariant-loop-at g l =
    AreNoted g.S.StableStorage.contents g.S.StableStorage.synced l.initial.journal l.journal (behind_all l.noted (take l.at (kept_of l.hall.floor)))
