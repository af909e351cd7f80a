-- What was done with the connections that were requested.
use Rattle.std.specs.Prelude.{◌≡◌, ◌+◌, ◌*◌, ◌≤◌, nat_lt, ℕ, Bool, List, length, Option, Some, None, ⊤, true, false}
use Rattle.c960_game.specs.Limits.{LimitNumbers}
use Rattle.relay960_words.specs.declared.order.Connections.{Connections}
use Rattle.relay960_words.specs.declared.order.Connections.TheVariants.{Count, Forever}
use Rattle.relay_durable.specs.Record.{DurableRecord}
use Rattle.relay_journal.specs.declared.entry.Entry.{Entry}
use Rattle.relay_journal.specs.Restarting.{IsRestarted}
use Rattle.relay_service.specs.Record.{ServiceRecord, begun}
use Rattle.relay_service.specs.Resumed.{IsResumed}
use Rattle.main_port.specs.declared.serve_end.ServeEnd.{ServeEnd}

-- As many were met as were requested: they were served, or that failed. If serving might end with the input, at most that many.
abbrev pub MeetsWith : Connections → Bool → ServeEnd → Type 0
MeetsWith (Count n) false end = end.served + end.failed ≡ n
MeetsWith (Count n) true end = end.served + end.failed ≤ n
MeetsWith Forever until_input_ends end = ⊤

-- how many connections may come, if that is bounded
abbrev pub most_of : Connections → Option ℕ
most_of (Count n) = Some n
most_of Forever = None

-- a relay without boards and without a journal, whose boards wait so many seconds
abbrev pub IsNew : {S : Type 0} → LimitNumbers → ℕ → DurableRecord S → Type 0
IsNew limits seconds relay = relay ≡ record { service = begun limits (seconds * 1000) (nat_lt 0 seconds); scribe = None }

-- a relay that goes on, at the beginning of its time, with the boards that some entries lead to
pub record GoesOn (limits : LimitNumbers) (seconds : ℕ) (s : ServiceRecord) : Type 0 where
  pub entries : List Entry
  pub restarted : IsRestarted limits (seconds * 1000) 0 entries s.hall
  pub resumed : IsResumed limits (seconds * 1000) (length entries) (nat_lt 0 seconds) s.hall s
