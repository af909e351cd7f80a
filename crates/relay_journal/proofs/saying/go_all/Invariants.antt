-- Those who said the entries before this place have gone, and what there is then is written.
use Rattle.std.proofs.Common.{ℕ, List, Option, take}
use Rattle.relay_core.specs.History.{History}
use Rattle.relay_hall.specs.Record.{HallRecord}
use Rattle.relay_journal.specs.declared.entry.Entry.{Entry}
use Rattle.relay_journal.specs.Restarting.{Leads, gone_from}
use Rattle.relay_journal.specs.Scribes.{ScribeRecord}
use Rattle.relay_journal.specs.Writing.{IsWritten}
use Rattle.relay_journal.proofs.saying.go_all.Given as goal

pub record HaveGone {S : Type 0} (contents : S → Option (List ℕ)) (synced : S → ℕ) (k l : HallRecord) (old new : ScribeRecord S) (es : List Entry) : Type 0 where
  pub gone : (h : History) → Leads k h (gone_from 0 es) l
  pub written : IsWritten contents synced old k.floor → IsWritten contents synced new l.floor

abbrev pub invariant-loop-at : goal.invariant-loop-at
invariant-loop-at g l =
    HaveGone g.S.StableStorage.contents g.S.StableStorage.synced l.initial.hall l.hall l.initial.scribe l.scribe (take l.at l.entries)
