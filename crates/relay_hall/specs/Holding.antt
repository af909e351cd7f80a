-- Whether connections with a key exist, and how long its boards wait if there are none.
use Rattle.std.specs.Prelude.{ℕ, ◌+◌, ◌-◌, ◌^◌, ◌≤◌, nat_lt, nat_le, cond, Option, None, Some, ⊤}
use Rattle.relay_hall.specs.declared.presence.Presence.{Presence}
use Rattle.relay_hall.specs.declared.presence.Presence.TheVariants.{Here, Waits}

-- one more has come: it is counted, or is the first again, and nothing waits
abbrev pub with_one_more : Presence → Option Presence
with_one_more (Here present) = cond (nat_lt present (2 ^ 32 - 1)) (Some (Here (present + 1))) None
with_one_more (Waits until) = Some (Here 1)

-- the boards wait until this time, or do not wait
abbrev pub waiting : Option ℕ → Option Presence
waiting None = None
waiting (Some until) = Some (Waits until)

-- one has gone: others remain, or the boards wait, or nothing is left
abbrev pub with_one_less : Presence → Option ℕ → Option Presence
with_one_less (Here present) until = cond (nat_lt 1 present) (Some (Here (present - 1))) (waiting until)
with_one_less (Waits earlier) until = waiting until

-- the boards have waited until now; without a time, they wait. As long as there is a connection they are not due.
abbrev pub IsDue : Option ℕ → Presence → Type 0
IsDue now (Here present) = ⊥
IsDue None (Waits until) = ⊤
IsDue (Some now) (Waits until) = until ≤ now

-- the earlier of a time and the time until which the boards wait
abbrev pub earlier : Presence → Option ℕ → Option ℕ
earlier (Here present) next = next
earlier (Waits until) None = Some until
earlier (Waits until) (Some next) = cond (nat_le next until) (Some next) (Some until)
