-- How long a connection is waited for, in the units of the loop's clock.
use Rattle.std.specs.Prelude.{ℕ, ◌+◌, ◌-◌, ◌*◌, ◌/◌, nat_le, nat_lt, Bool, false, cond, is_some, Option, None, Some}
use Rattle.server_loop.specs.declared.deadlines.TheConstants.{MOST_PINGS}
use Rattle.server_loop.specs.declared.deadlines.Deadlines.{Deadlines}
use Rattle.server_loop.specs.declared.deadlines.SlowReader.{SlowReader}
use Rattle.server_loop.specs.declared.deadlines.Times.{Times}
use Rattle.server_loop.specs.declared.deadlines.Stage.{Stage}
use Rattle.server_loop.specs.declared.deadlines.Stage.TheVariants.{Comes, Asks, Follows, Leaves, Drains}
use Rattle.server_loop.specs.declared.deadlines.Verdict.{Verdict}
use Rattle.server_loop.specs.declared.deadlines.Verdict.TheVariants.{Stays, Ping, Tries, Idle, Stuck, Gone}

-- it began, and so much time has passed since then
abbrev pub has_lasted : Option ℕ → ℕ → ℕ → Bool
has_lasted None now most = false
has_lasted (Some since) now most = nat_le most (now - since)

-- there is a bound, and so much time has reached it
abbrev pub has_reached : Option ℕ → ℕ → Bool
has_reached None passed = false
has_reached (Some most) passed = nat_le most passed

-- since when output waits that was not taken, if some waits from now on at the latest
abbrev pub kept_waiting : Option ℕ → ℕ → Option ℕ
kept_waiting None now = Some now
kept_waiting (Some since) now = Some since

-- how many whole steps there are in a span; of no length there are none
abbrev pub steps_in : ℕ → ℕ → ℕ
steps_in span step = cond (nat_lt 0 step) (span / step) 0

-- how many attempts to write are due by now to one that takes nothing
abbrev pub tries_by : Option SlowReader → Option ℕ → ℕ → ℕ
tries_by None since now = 0
tries_by (Some slow) None now = 0
tries_by (Some slow) (Some since) now = steps_in (now - since) slow.tried_after

-- one that took nothing for too long goes, or has had to take its close since then
abbrev pub slow_verdict : Option SlowReader → Option ℕ → ℕ → Verdict
slow_verdict None since now = Gone
slow_verdict (Some slow) since now = cond (has_lasted since now slow.close) Gone Stuck

-- a ping is due after each time of silence, two of them at most, unless output waits
abbrev pub ping_of : Times → Deadlines → ℕ → Verdict
ping_of t d now =
    cond (nat_le (steps_in (now - d.heard_at) t.silent) d.pings) Stays
    (cond (nat_le MOST_PINGS d.pings) Gone (cond (is_some d.waits_since) Stays Ping))

-- One that may say something goes if half a message waits too long, and if output does, unless it is granted more. It is idle if it sends
-- no message for so long, or may be silent.
abbrev pub verdict_talking : Times → Deadlines → ℕ → Option ℕ → Verdict
verdict_talking t d now most_idle =
    cond (has_lasted d.midway_since now t.half) Gone
    (cond (nat_lt d.tries (tries_by t.slow_reader d.waits_since now)) Tries
    (cond (has_lasted d.waits_since now t.wait) (slow_verdict t.slow_reader d.stuck_since now)
    (cond (has_reached most_idle (now - d.stage_began)) Idle (ping_of t d now))))

-- what is to be done with a connection at this stage
abbrev pub verdict_of : Times → Deadlines → ℕ → Stage → Option ℕ → Verdict
verdict_of t d now Comes most_idle = cond (nat_le t.request (now - d.stage_began)) Gone Stays
verdict_of t d now Drains most_idle = cond (nat_le t.leaving (now - d.stage_began)) Gone Stays
verdict_of t d now Leaves most_idle = cond (has_lasted d.waits_since now t.wait) Gone Stays
verdict_of t d now Asks most_idle = verdict_talking t d now most_idle
verdict_of t d now Follows most_idle = verdict_talking t d now None

-- since when a silence counts, of which so many pings were sent, the last of them now: each has a whole time of silence behind it
abbrev pub counted_from : Deadlines → ℕ → ℕ → ℕ
counted_from d now silent = cond (nat_lt d.pings (steps_in (now - d.heard_at) silent)) (now - d.pings * silent) d.heard_at

-- one ping more, sent now
abbrev pub pinged : Deadlines → Deadlines
pinged d = record d { pings = d.pings + 1 }

-- a ping and an attempt are counted, and so is the time to take a close
abbrev pub counted_by : Times → ℕ → Verdict → Deadlines → Deadlines
counted_by t now Stays d = d
counted_by t now Ping d = record (pinged d) { heard_at = counted_from (pinged d) now t.silent }
counted_by t now Tries d = record d { tries = tries_by t.slow_reader d.waits_since now }
counted_by t now Idle d = d
counted_by t now Stuck d = record d { stuck_since = kept_waiting d.stuck_since now }
counted_by t now Gone d = d
