-- the moves before this place were noted
use Rattle.std.proofs.Common.{map, take}
use Rattle.relay_journal.specs.declared.entry.Entry.TheVariants.{Plays}
use Rattle.relay_journal.specs.Writing.{AreNoted}
use Rattle.relay_journal.proofs.writing.note_each.Given as goal

abbrev pub invariant-loop-at : goal.invariant-loop-at
invariant-loop-at g l =
    AreNoted g.S.StableStorage.contents g.S.StableStorage.synced l.initial.journal l.journal (map (λ m. Plays l.board m) (take l.at l.moves))
