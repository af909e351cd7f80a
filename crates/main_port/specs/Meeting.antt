-- How many connections were met, and where newcomers come in.
use Rattle.std.specs.Prelude.{◌≡◌, ◌&&◌, ℕ, ◌+◌, cond, min, nat_le, Bool, false, true, Option, None, Some, is_some, unwrap_or}
use Rattle.main_port.specs.declared.serve_end.ServeEnd.{ServeEnd}
use Rattle.server_loop.specs.declared.listener.Arrival.{Arrival}
use Rattle.server_loop.specs.declared.listener.Arrival.TheVariants.{Newcomer, TurnedAway, Nobody, Failed}

-- who was met, how many may be, whether newcomers come in, and whether that may end before the last has come
pub record AcceptorRecord : Type 0 where
  pub met : ServeEnd
  pub most : Option ℕ
  pub is_open : Bool
  pub may_end : Bool

-- nobody was met
abbrev pub none_met : Option ℕ → Bool → AcceptorRecord
none_met most may_end = record { met = record { served = 0; failed = 0 }; most = most; is_open = true; may_end = may_end }

-- how many were met
abbrev pub met_of : AcceptorRecord → ℕ
met_of a = a.met.served + a.met.failed

-- how many can be met: as many as may be, or as many as can be counted
abbrev pub most_of : Option ℕ → ℕ
most_of most = unwrap_or most 4294967295

abbrev pub is_reached : Option ℕ → ℕ → Bool
is_reached None met = false
is_reached (Some most) met = nat_le most met

-- the last that may be met has been
abbrev pub is_full : AcceptorRecord → Bool
is_full a = is_reached a.most (met_of a)

-- one more was served, or has failed
abbrev pub one_more : Bool → ServeEnd → ServeEnd
one_more true m = record m { served = m.served + 1 }
one_more false m = record m { failed = m.failed + 1 }

-- one more was met, and let in or not, unless as many were as can be
abbrev pub met_one : Bool → AcceptorRecord → AcceptorRecord
met_one is_in a = record a { met = cond (nat_le (most_of a.most) (met_of a)) a.met (one_more is_in a.met) }

-- how many were met then: whoever was accepted, was turned away or could not be accepted, was
abbrev pub met_by : Arrival → AcceptorRecord → ℕ
met_by (Newcomer stream) a = min (met_of a + 1) (most_of a.most)
met_by TurnedAway a = min (met_of a + 1) (most_of a.most)
met_by Nobody a = met_of a
met_by Failed a = min (met_of a + 1) (most_of a.most)

-- some may have been met, and may have failed, and nothing else has changed
abbrev pub OnlyMeets : AcceptorRecord → AcceptorRecord → Type 0
OnlyMeets e f = (f.is_open ≡ e.is_open) × (f.may_end ≡ e.may_end) × (f.most ≡ e.most)

-- as many may come, and serving ends as before
abbrev pub IsOfTheSame : AcceptorRecord → AcceptorRecord → Type 0
IsOfTheSame e f = (f.most ≡ e.most) × (f.may_end ≡ e.may_end)

-- serving has failed: there is a journal, and this is why it did
abbrev pub has_failed : {E : Type 0} → Bool → Option E → Bool
has_failed has_journal failure = has_journal && is_some failure
