-- How long connections pause that were refused to follow.
use Rattle.std.specs.Prelude.{◌≡◌, ◌≤◌, ℕ, ◌+◌, ◌*◌, ◌%◌, min, List, ◌∷◌}
use Rattle.std.specs.Ordering.{nat_cmp, ordering_then}
use Rattle.std.specs.declared.cmp.Ordering.{Ordering}
use Rattle.std.specs.List.{All}
use Rattle.server_loop.specs.declared.backoff.Pause.{Pause}
use Rattle.server_loop.specs.declared.backoff.TheConstants.{PAUSE_MILLIS, MOST_PAUSE_MILLIS, SPREAD_MILLIS}

-- for how many milliseconds a connection is not read after this many refused commands to follow
abbrev pub pause_millis : ℕ → ℕ
pause_millis refused = min (refused * PAUSE_MILLIS) MOST_PAUSE_MILLIS

-- when a connection with this key begins to pause that was refused in this millisecond: they are spread over some
abbrev pub start_of : ℕ → ℕ → ℕ
start_of now key = min (now + key % SPREAD_MILLIS) 18446744073709551615

-- when a pause is over that began in this millisecond, which does not count
abbrev pub end_of : ℕ → ℕ → ℕ
end_of since refused = min (since + pause_millis refused + 1) 18446744073709551615

-- the order of pauses: the one that is over first comes first, and of two that are over at once the one of the lower key
abbrev pub order : Pause → Pause → Ordering
order p q = ordering_then (nat_cmp p.until q.until) (nat_cmp p.key q.key)

-- none of these pauses is over before this millisecond
abbrev pub LastUntil : ℕ → List Pause → Type 0
LastUntil millis pauses = All (λ r. millis ≤ r.until) pauses

-- a connection with this key has paused, as the first of all, and the others pause on
pub record HasPaused (before : List Pause) (now key : ℕ) (after : List Pause) : Type 0 where
  pub pause : Pause
  pub its : pause.key ≡ key
  pub over : pause.until ≤ now
  pub others : before ≡ pause ∷ after
