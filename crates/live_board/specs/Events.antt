-- The events of a shared board. Each has a line that says when it is allowed, then what it does to the board; nothing else
-- ever happens to a board.
use Rattle.std.specs.Prelude.{ℕ, ◌≡◌, ◌<◌, ◌≤◌, ◌+◌, List, [], ◌∷◌, ◌++◌, length, Option, Some, None}
use Rattle.c960_board.specs.declared.numbering.TheConstants.{STARTS}
use Rattle.c960_board.specs.Moves.{Triple}
use Rattle.c960_rules.specs.Legal.{Legal}
use Rattle.c960_game.specs.declared.ending.Ending.{Ending}
use Rattle.c960_game.specs.Ending.{named_outcome}
use Rattle.c960_game.specs.Ends.{own_outcome}
use Rattle.c960_game.specs.Ground.{Ground}
use Rattle.c960_game.specs.Positions.{last_position}
use Rattle.live_board.specs.declared.limits.BoardLimits.{BoardLimits}
use Rattle.live_board.specs.SharedBoard.{SharedFollower, SharedBoard, next, move_at, with_follower}

-- An event names a slot; a follow also names the place of the log from which it takes.
pub data Event : Type 0 where
  Open : ℕ → Event
  Follow : ℕ → ℕ → Event
  Close : ℕ → Event
  Submit : Triple → Event
  End : Ending → Event
  Take : ℕ → Event
  Leave : ℕ → Event

-- ---- What the lines below speak of.

-- a board with no moves and no followers
abbrev pub opened : ℕ → SharedBoard
opened n = record { start = n; log = []; outcome = None; followers = λ _. None }

-- the follower has not been closed, and a whole queue lies before it
abbrev pub IsFull : BoardLimits → SharedBoard → SharedFollower → Type 0
IsFull limits a f = (f.closing ≡ None) × (length a.log ≡ next f + limits.capacity)

-- nobody on the board is full
abbrev pub NobodyFull : BoardLimits → SharedBoard → Type 0
NobodyFull limits a = (k : ℕ) (f : SharedFollower) → a.followers k ≡ Some f → ¬ (IsFull limits a f)

-- the log, and the closing if there is one, go beyond what the follower has
abbrev pub HasNext : SharedBoard → SharedFollower → Type 0
HasNext a f = (next f < length a.log) × ((c : ℕ) → f.closing ≡ Some c → next f < c)

-- the board after the follower in the slot k becomes f
abbrev pub changed : SharedBoard → ℕ → Option SharedFollower → SharedBoard
changed a k f = record a { followers = with_follower a.followers k f }

-- joins the log at the place p
abbrev pub joining : ℕ → SharedFollower
joining p = record { joined = p; taken = []; closing = None }

-- is closed at this length
abbrev pub closed_at : ℕ → SharedFollower → SharedFollower
closed_at long f = record f { closing = Some long }

-- has this move too
abbrev pub with_taken : Triple → SharedFollower → SharedFollower
with_taken m f = record f { taken = f.taken ++ m ∷ [] }

-- the board with one move more, and the outcome that the game then has by itself, if any
abbrev pub with_move : Triple → SharedBoard → SharedBoard
with_move m a = record a { log = a.log ++ m ∷ []; outcome = own_outcome a.start (a.log ++ m ∷ []) }

-- the board with the outcome that the ending names
abbrev pub ended_by : Ending → SharedBoard → SharedBoard
ended_by e a = record { start = a.start; log = a.log; outcome = Some (named_outcome e); followers = a.followers }

-- ---- The events of a board that exists.

abbrev pub Goes : BoardLimits → SharedBoard → Event → SharedBoard → Type 0
Goes limits a (Open n) b = ⊥
Goes limits a (Follow k p) b =
    (k < limits.followers) × (a.followers k ≡ None) × (p ≤ length a.log) × (length a.log ≤ p + limits.capacity)
    × (b ≡ changed a k (Some (joining p)))
Goes limits a (Close k) b = (f : SharedFollower) × (a.followers k ≡ Some f) × IsFull limits a f
    × (b ≡ changed a k (Some (closed_at (length a.log) f)))
Goes limits a (Submit m) b =
    (a.outcome ≡ None) × (length a.log < limits.plies) × Legal (last_position a.start a.log) m × NobodyFull limits a
    × (b ≡ with_move m a)
Goes limits a (End e) b = (a.outcome ≡ None) × Ground a.start a.log e
    × (b ≡ ended_by e a)
Goes limits a (Take k) b = (f : SharedFollower) × (a.followers k ≡ Some f) × HasNext a f
    × (b ≡ changed a k (Some (with_taken (move_at a.log (next f)) f)))
Goes limits a (Leave k) b = (f : SharedFollower) × (a.followers k ≡ Some f)
    × (b ≡ changed a k None)

-- ---- Every event: the first one opens the board.

abbrev pub Does : BoardLimits → Option SharedBoard → Event → SharedBoard → Type 0
Does limits None (Open n) b = (n < STARTS) × (b ≡ opened n)
Does limits None _ b = ⊥
Does limits (Some a) e b = Goes limits a e b

-- these events, in order, lead from one state to another; before the first event there is no board
abbrev pub Runs : BoardLimits → Option SharedBoard → List Event → Option SharedBoard → Type 0
Runs limits a [] b = b ≡ a
Runs limits a (e ∷ es) b = (now : SharedBoard) × Does limits a e now × Runs limits (Some now) es b
