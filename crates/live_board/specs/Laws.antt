-- What is true of a shared board after any list of events.
use Rattle.std.specs.Prelude.{ℕ, ◌≡◌, ◌<◌, ◌≤◌, ◌+◌, List, length, Some, None}
use Rattle.c960_game.specs.declared.outcome.Outcome.{Outcome}
use Rattle.c960_game.specs.Game960.{Game960}
use Rattle.c960_game.specs.Record.{IsOutcome}
use Rattle.relay_core.specs.Following.{stretch}
use Rattle.live_board.specs.declared.limits.BoardLimits.{BoardLimits}
use Rattle.live_board.specs.SharedBoard.{SharedFollower, SharedBoard, next, move_at}
use Rattle.live_board.specs.Events.{Event, Runs}
use Rattle.c960_board.specs.declared.numbering.TheConstants.{STARTS}

-- true of every board that a list of events leads to
abbrev pub Always : (BoardLimits → SharedBoard → Type 0) → Type 0
Always P = (limits : BoardLimits) (events : List Event) (now : SharedBoard) → Runs limits None events (Some now)
    → P limits now

-- true of each follower of such a board
abbrev pub AlwaysOfEach : (BoardLimits → SharedBoard → SharedFollower → Type 0) → Type 0
AlwaysOfEach P = Always (λ limits now. (k : ℕ) (f : SharedFollower) → now.followers k ≡ Some f → P limits now f)

-- the start has a number
abbrev pub Numbered : BoardLimits → SharedBoard → Type 0
Numbered limits a = a.start < STARTS

-- the log is a legal game from its start, and no longer than the limit allows
abbrev pub HasLegalGame : BoardLimits → SharedBoard → Type 0
HasLegalGame limits a = Game960 a.start a.log × (length a.log ≤ limits.plies)

-- the outcome is the one that the log has by itself, if any; or the log has none, and an ending with its ground names it
abbrev pub HasItsOutcome : BoardLimits → SharedBoard → Type 0
HasItsOutcome limits a = IsOutcome a.start a.log a.outcome

-- the follower's list is the stretch of the log from its joining place to the place of its next move
abbrev pub HasStretch : BoardLimits → SharedBoard → SharedFollower → Type 0
HasStretch limits a f = (f.taken ≡ stretch f.joined (next f) a.log) × (next f ≤ length a.log)

-- without a closing the log goes at most a capacity beyond the follower's list
abbrev pub IsNear : BoardLimits → SharedBoard → SharedFollower → Type 0
IsNear limits a f = f.closing ≡ None → length a.log ≤ next f + limits.capacity

-- with a closing the follower's list ends at it or before, and the closing lies in the log
abbrev pub IsWithinClosing : BoardLimits → SharedBoard → SharedFollower → Type 0
IsWithinClosing limits a f = (c : ℕ) → f.closing ≡ Some c → (next f ≤ c) × (c ≤ length a.log)

-- nothing is added to the log after an outcome: whatever events come later, start, log and outcome stay
abbrev pub EndStays : Type 0
EndStays = (limits : BoardLimits) (events later : List Event) (was now : SharedBoard) (o : Outcome)
    → Runs limits None events (Some was) → was.outcome ≡ Some o → Runs limits (Some was) later (Some now)
    → (now.start ≡ was.start) × (now.log ≡ was.log) × (now.outcome ≡ Some o)

-- ---- The same, as what each event keeps.

-- what a follower has, relative to a log; `near_closing` is what is left of `near` once it is closed
pub record IsFollower (limits : BoardLimits) (a : SharedBoard) (f : SharedFollower) : Type 0 where
  pub stretch : (i : ℕ) → i < length f.taken → move_at f.taken i ≡ move_at a.log (f.joined + i)
  pub within : next f ≤ length a.log
  pub near : IsNear limits a f
  pub closed : IsWithinClosing limits a f
  pub near_closing : (c : ℕ) → f.closing ≡ Some c → c ≤ next f + limits.capacity

pub record IsShared (limits : BoardLimits) (a : SharedBoard) : Type 0 where
  pub game : Game960 a.start a.log
  pub room : length a.log ≤ limits.plies
  pub ended : IsOutcome a.start a.log a.outcome
  pub slots : (k : ℕ) (f : SharedFollower) → a.followers k ≡ Some f → (k < limits.followers) × IsFollower limits a f
