-- What a take answers, and its effect on the follower.
use Rattle.std.specs.Prelude.{◌≡◌, ℕ, ◌+◌, ◌<◌, ◌≤◌, List, [], ◌∷◌, ◌++◌, length, Option, Some, None}
use Rattle.c960_board.specs.Moves.{Triple}
use Rattle.c960_game.specs.Record.{IsOutcome}
use Rattle.relay_core.specs.declared.reply.Taken.{Taken}
use Rattle.relay_core.specs.declared.reply.Taken.TheVariants.{Move, Nothing, Over, Cut}
use Rattle.live_board.specs.SharedBoard.{move_at}
use Rattle.live_board.specs.declared.view.Part.{Part}
use Rattle.live_board.specs.Views.{next_of}
use Rattle.live_board.specs.Sound.{BearsOut}
use Rattle.live_board.specs.Seats.{FollowerSeat}

-- what was known is still known
abbrev pub StaysKnown : {A : Type 0} → Option A → Option A → Type 0
StaysKnown {A} old new = (x : A) → old ≡ Some x → new ≡ Some x

-- the part q has seen no less than p: not of the length, nor of an outcome or a closing
abbrev pub HasSeenNoLess : Part → Part → Type 0
HasSeenNoLess p q = (p.seen ≤ q.seen) × StaysKnown p.outcome q.outcome × StaysKnown p.closing q.closing

-- whatever the answer was, the follower stays where it is, and has seen no less
abbrev pub Stays : FollowerSeat → FollowerSeat → Type 0
Stays f g = (g.table ≡ f.table) × (g.part.setup ≡ f.part.setup) × (g.part.slot ≡ f.part.slot)
    × (g.part.joined ≡ f.part.joined) × (g.part.before ≡ f.part.before)
    × HasSeenNoLess f.part g.part

-- the status was loaded in this call, and nothing was taken: the next place is the length that it said, and no closing is known
abbrev pub FoundNone : Part → Part → Type 0
FoundNone p q = (q.loads ≡ p.loads + 1) × (q.taken ≡ p.taken) × (next_of q ≡ q.seen) × (q.closing ≡ None)

-- the status was loaded, once, if all that was seen had been taken, and only then
abbrev pub LoadedAtNeed : Part → Part → Type 0
LoadedAtNeed p q = (next_of p < p.seen → q.loads ≡ p.loads) × (p.seen ≤ next_of p → q.loads ≡ p.loads + 1)

-- what happened, by the answer
abbrev pub Took : FollowerSeat → FollowerSeat → Taken → Type 0
Took f g (Move place m) =
    (place ≡ next_of f.part) × (g.part.taken ≡ f.part.taken ++ m ∷ []) × LoadedAtNeed f.part g.part
Took f g Nothing = FoundNone f.part g.part × (g.part.outcome ≡ None)
Took f g (Over outcome) = FoundNone f.part g.part × (g.part.outcome ≡ Some outcome)
Took f g Cut = (g ≡ f) × (f.part.closing ≡ Some (next_of f.part))

-- ---- The headline.

-- What the answer says of the board's log and of the length at which the follower was closed, if it was: the move at that place; that all
-- of the log that was seen is taken; the outcome, with all of the log taken; or that all moves up to the closing are.
abbrev pub Answers : List Triple → Option ℕ → Part → Taken → Type 0
Answers log closing p (Move place m) = (place < length log) × (m ≡ move_at log place)
Answers log closing p Nothing = next_of p ≡ p.seen
Answers log closing p (Over outcome) = (next_of p ≡ length log) × IsOutcome p.setup.start log (Some outcome)
Answers log closing p Cut = closing ≡ Some (next_of p)

-- There is a log of the board, a legal game from its numbered start. The follower has taken exactly its stretch from its joining place on,
-- and the answer fits it.
abbrev pub TookOfGame : Part → Taken → Type 0
TookOfGame p taken = (log : List Triple) × (closing : Option ℕ) × BearsOut log closing p × Answers log closing p taken
