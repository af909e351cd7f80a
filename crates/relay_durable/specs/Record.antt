-- What contracts see of a service and its journal.
use Rattle.std.specs.Prelude.{◌==◌, ◌&&◌, Bool, true, false, length, not, Option, None, Some}
use Rattle.relay_journal.specs.Scribes.{ScribeRecord}
use Rattle.relay_service.specs.Record.{ServiceRecord}

-- the service, and who writes its journal, if there is one
pub record DurableRecord (S : Type 0) : Type 0 where
  pub service : ServiceRecord
  pub scribe : Option (ScribeRecord S)

-- all that its boards have is on the disk, as far as it is known: nothing was noted since the last commit, and nothing has failed
abbrev pub is_settled_by : {S : Type 0} → Option (ScribeRecord S) → Bool
is_settled_by None = true
is_settled_by (Some s) = not s.has_failed && (length s.journal.noted == 0)

abbrev pub is_settled : {S : Type 0} → DurableRecord S → Bool
is_settled d = is_settled_by d.scribe

-- the journal has failed: from then on nothing is noted or committed, so nothing is settled any more
abbrev pub has_failed_by : {S : Type 0} → Option (ScribeRecord S) → Bool
has_failed_by None = false
has_failed_by (Some s) = s.has_failed

abbrev pub has_failed : {S : Type 0} → DurableRecord S → Bool
has_failed d = has_failed_by d.scribe
