-- What contracts see of a scribe, who keeps a journal of a hall.
use Rattle.std.specs.Prelude.{Bool, is_some, List, length, map}
use Rattle.chained_lines.specs.Records.{JournalRecord}
use Rattle.relay_hall.specs.Record.{FloorRecord}
use Rattle.relay_journal.specs.declared.noted.Noted.{Noted}
use Rattle.relay_journal.specs.Kept.{KeptBoard, kept_of}

-- its journal; what it noted of each board, in the order of opening; whether it has failed
pub record ScribeRecord (S : Type 0) : Type 0 where
  pub journal : JournalRecord S
  pub noted : List Noted
  pub has_failed : Bool

-- what is noted of a board of which nothing is missing: how many moves, and whether its end
abbrev pub noted_of : KeptBoard → Noted
noted_of b = record { plies = length b.log; is_over = is_some b.outcome }

-- of all boards
abbrev pub noted_in : FloorRecord → List Noted
noted_in f = map (λ e. noted_of e.1) (kept_of f)
