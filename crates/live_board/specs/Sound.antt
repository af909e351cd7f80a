-- What is true of a view by itself as long as the rule holds: what code may conclude from the view of its own seat.
use Rattle.std.specs.Prelude.{◌≡◌, ℕ, ◌+◌, ◌<◌, ◌≤◌, ◌⊎◌, ◌++◌, true, List, length, take, unwrap_or, Option, Some, None, IfSome}
use mathlib.Core.Option.{some}
use lib.ListN.{get_elem?}
use Rattle.c960_board.specs.declared.numbering.TheConstants.{STARTS}
use Rattle.c960_board.specs.Moves.{Triple, IsMove}
use Rattle.c960_game.specs.declared.outcome.Outcome.{Outcome}
use Rattle.c960_game.specs.Game960.{Game960}
use Rattle.c960_game.specs.Record.{IsOutcome}
use Rattle.relay_core.specs.Following.{stretch}
use Rattle.live_board.specs.Limits.{AreBoardLimits}
use Rattle.live_board.specs.SharedBoard.{move_at}
use Rattle.live_board.specs.declared.note.Note.{Note}
use Rattle.live_board.specs.declared.note.Note.TheVariants.{Vacant, Open, Closed}
use Rattle.live_board.specs.declared.view.Part.{Part}
use Rattle.live_board.specs.declared.view.View.{View}
use Rattle.live_board.specs.Views.{next_of}

-- ---- The headline, of one follower.

-- the end of the moves that a follower gets: the length at which it was closed, or else the present, the log's length
abbrev pub end_of : List Triple → Option ℕ → ℕ
end_of log closing = unwrap_or closing (length log)

-- The board's log, and its length when the follower was closed, if it was, agree with what the follower has and knows.
pub record BearsOut (log : List Triple) (closing : Option ℕ) (p : Part) : Type 0 where
  -- the log is a legal game from its numbered start
  pub game : Game960 p.setup.start log
  pub room : length log ≤ p.setup.limits.plies
  -- the moves taken, then those due, are, each once and in order, the stretch of the log from the joining place to the closing or the
  -- present
  pub whole : p.taken ++ stretch (next_of p) (end_of log closing) log ≡ stretch p.joined (end_of log closing) log
  pub before : p.before ≡ take p.joined log
  -- that end lies in the log, not before the next place, and no more moves are due than a queue holds
  pub reached : (next_of p ≤ end_of log closing) × (end_of log closing ≤ length log)
  pub bounded : end_of log closing ≤ next_of p + p.setup.limits.capacity
  -- what it has seen lies in the log, and a closing that it has noticed is its closing
  pub seen : p.seen ≤ length log
  pub closed : (c : ℕ) → p.closing ≡ Some c → closing ≡ Some c
  -- an outcome that it has seen is one that the log has, and then it has seen the whole log
  pub over : (o : Outcome) → p.outcome ≡ Some o → IsOutcome p.setup.start log (Some o) × (p.seen ≡ length log)

-- ---- What is true of views.

-- a follower's part
pub record IsSoundPart (p : Part) : Type 0 where
  pub limits : AreBoardLimits p.setup.limits
  pub inside : p.slot < p.setup.limits.followers
  pub within : next_of p ≤ p.seen
  pub room : p.seen ≤ p.setup.limits.plies
  pub closing : (c : ℕ) → p.closing ≡ Some c → (next_of p ≤ c) × (c ≤ next_of p + p.setup.limits.capacity)
      × (c ≤ p.setup.limits.plies)
  pub loaded : IfSome p.loaded (λ m. (next_of p < p.seen) × IsMove m)
  pub log : List Triple
  pub closed_at : Option ℕ
  pub headline : BearsOut log closed_at p

-- what a note says of the part in its slot
abbrev pub Agrees : View → Note → Part → Type 0
Agrees v Vacant p = ⊥
Agrees v (Open joined least) p =
    (p.joined ≡ joined) × (p.closing ≡ None) × (least ≤ next_of p) × (next_of p ≤ length v.log)
    × (length v.log ≤ next_of p + v.setup.limits.capacity)
Agrees v (Closed c) p =
    (next_of p ≤ c) × (c ≤ length v.log) × (c ≤ next_of p + v.setup.limits.capacity)
    × (p.closing ≡ None → c ≡ next_of p + v.setup.limits.capacity)
    × ((d : ℕ) → p.closing ≡ Some d → d ≡ c)

-- the board's view
pub record IsSoundBoard (v : View) : Type 0 where
  pub limits : AreBoardLimits v.setup.limits
  pub start : v.setup.start < STARTS
  pub room : length v.log ≤ v.setup.limits.plies
  pub noted : length v.notes ≡ v.setup.limits.followers
  pub checked : length v.checks ≡ v.setup.limits.followers
  pub agree : (i : ℕ) (p : Part) → get_elem? v.parts i ≡ some p → (n : Note) → get_elem? v.notes p.slot ≡ some n
      → Agrees v n p
  pub inside : (i : ℕ) (p : Part) → get_elem? v.parts i ≡ some p → (p.slot < v.setup.limits.followers)
      × (p.setup ≡ v.setup)
  pub once : (i j : ℕ) (p q : Part) → get_elem? v.parts i ≡ some p → get_elem? v.parts j ≡ some q → p.slot ≡ q.slot
      → i ≡ j
  pub stretch : (i : ℕ) (p : Part) → get_elem? v.parts i ≡ some p → (k : ℕ) → k < length p.taken
      → move_at p.taken k ≡ move_at v.log (p.joined + k)

-- a view: the parts that it carries, and the board's fields if it is the board's
pub record IsSound (v : View) : Type 0 where
  pub parts : (i : ℕ) (p : Part) → get_elem? v.parts i ≡ some p → IsSoundPart p
  pub board : v.owns ≡ true → IsSoundBoard v

-- what a note becomes when its cursor is loaded
abbrev pub Follows : Note → Note → Type 0
Follows Vacant n = n ≡ Vacant
Follows (Open joined least) n = (n ≡ Vacant) ⊎ ((c : ℕ) × (n ≡ Open joined c) × (least ≤ c))
Follows (Closed c) n = (n ≡ Vacant) ⊎ (n ≡ Closed c)
