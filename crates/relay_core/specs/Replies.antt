-- The reply that a history requires, and the histories that have these replies, lack of memory aside.
use Rattle.std.specs.Prelude.{◌≡◌, ℕ, ◌==◌, nat_le, Bool, true, false, not, cond, is_some, List, [], ◌∷◌, ◌++◌, length, take, Option, Some, None, ◌⊎◌}
use Rattle.c960_board.specs.Moves.{Triple}
use Rattle.c960_game.specs.declared.ending.Ending.{Ending}
use Rattle.c960_game.specs.declared.outcome.Outcome.{Outcome}
use Rattle.c960_game.specs.declared.refusal.Refusal.{Refusal}
use Rattle.c960_game.specs.declared.refusal.Refusal.TheVariants.{NoSuchBoard, GameOver, Illegal, LogFull, ClaimRefused, NoSuchFollower, OutOfMemory}
use Rattle.c960_game.specs.Ending.{named_outcome}
use Rattle.c960_game.specs.Ends.{own_outcome}
use Rattle.c960_game.specs.Tests.Ground.{has_ground}
use Rattle.c960_game.specs.Limits.{LimitNumbers}
use Rattle.c960_game.specs.Tests.Moves.{is_legal_move}
use Rattle.c960_game.specs.Positions.{last_position}
use Rattle.relay_core.specs.declared.step.Step.{Step}
use Rattle.relay_core.specs.declared.step.Step.TheVariants.{Open, Submit, End, Follow, Take, Leave}
use Rattle.relay_core.specs.declared.reply.Reply.{Reply}
use Rattle.relay_core.specs.declared.reply.Reply.TheVariants.{Opened, Played, Ended, Following, Took, Left, Refused}
use Rattle.relay_core.specs.declared.reply.Taken.{Taken}
use Rattle.relay_core.specs.declared.reply.Taken.TheVariants.{Move, Nothing, Over, Cut}
use Rattle.relay_core.specs.Following.{board_of, crowd, place_of, joined, taken, next, closing_of, limit, due}
use Rattle.relay_core.specs.History.{History, is_accepted, opened, start_of, log, end_of}
use Rattle.relay_core.specs.Refusals.{open_grounds, follow_grounds}

-- ---- The reply to each step: the first refusal whose ground holds, else the accepted reply.

abbrev pub first_of : List (Bool × Refusal) → Reply → Reply
first_of [] accepted = accepted
first_of (one ∷ rest) accepted = cond one.0 (Refused one.1) (first_of rest accepted)

abbrev pub reply_to_open : LimitNumbers → History → List ℕ → ℕ → Reply
reply_to_open limits h board start =
    first_of (open_grounds (is_some (start_of h board)) start (length (opened h)) limits.boards) Opened

abbrev pub reply_to_submit : LimitNumbers → History → List ℕ → Triple → Option ℕ → Reply
reply_to_submit limits h board m None = Refused NoSuchBoard
reply_to_submit limits h board m (Some start) =
    first_of ((is_some (end_of h start board), GameOver) ∷ (length (log h board) == limits.plies, LogFull)
    ∷ (not (is_legal_move (last_position start (log h board)) m), Illegal) ∷ [])
    (Played (length (log h board)) (own_outcome start (log h board ++ m ∷ [])))

abbrev pub reply_to_end : History → List ℕ → Ending → Option ℕ → Reply
reply_to_end h board ending None = Refused NoSuchBoard
reply_to_end h board ending (Some start) =
    first_of ((is_some (end_of h start board), GameOver) ∷ (not (has_ground start (log h board) ending), ClaimRefused) ∷ [])
    (Ended (named_outcome ending))

-- the reply to a follow that joins at this place
abbrev pub reply_to_follow : LimitNumbers → History → ℕ → List ℕ → ℕ → Option ℕ → Reply
reply_to_follow limits h who board place None = Refused NoSuchBoard
reply_to_follow limits h who board place (Some start) =
    first_of (follow_grounds (is_some (board_of h who)) (length (log h board)) place limits.capacity
    (nat_le limits.followers (crowd h board)))
    (Following place (last_position start (take place (log h board))))

-- the first of the moves due, with its place; else that the follower was closed; else that the game has ended; else nothing
abbrev pub taken_of : ℕ → Option Outcome → Option ℕ → List Triple → Taken
taken_of place over cut (m ∷ rest) = Move place m
taken_of place over (Some closing) [] = Cut
taken_of place (Some outcome) None [] = Over outcome
taken_of place None None [] = Nothing

-- how a board that was opened ended
abbrev pub over_of : History → List ℕ → Option ℕ → Option Outcome
over_of h board None = None
over_of h board (Some start) = end_of h start board

abbrev pub reply_to_take : LimitNumbers → History → ℕ → Option (List ℕ) → Reply
reply_to_take limits h who None = Refused NoSuchFollower
reply_to_take limits h who (Some board) =
    Took (taken_of (next h who) (over_of h board (start_of h board)) (closing_of limits.capacity h who)
    (due limits.capacity h who board))

abbrev pub reply_to_leave : LimitNumbers → History → ℕ → Option (List ℕ) → Reply
reply_to_leave limits h who None = Refused NoSuchFollower
reply_to_leave limits h who (Some board) =
    Left (record {
      joined = joined h who;
      taken = length (taken h who);
      limit = limit limits.capacity h who board;
      cut = is_some (closing_of limits.capacity h who);
    })

abbrev pub reply_to : LimitNumbers → History → Step → Reply
reply_to limits h (Open board start) = reply_to_open limits h board start
reply_to limits h (Submit board m) = reply_to_submit limits h board m (start_of h board)
reply_to limits h (End board ending) = reply_to_end h board ending (start_of h board)
reply_to limits h (Follow who board from) = reply_to_follow limits h who board (place_of h board from) (start_of h board)
reply_to limits h (Take who) = reply_to_take limits h who (board_of h who)
reply_to limits h (Leave who) = reply_to_leave limits h who (board_of h who)

-- the steps that take memory
abbrev pub may_grow : Step → Bool
may_grow (Open board start) = true
may_grow (Follow who board from) = true
may_grow _ = false

-- lack of memory may refuse an Open or a Follow, if no other refusal's ground holds
abbrev pub WantsMemory : LimitNumbers → History → Step → Reply → Type 0
WantsMemory limits h step reply =
    (may_grow step ≡ true) × (is_accepted (reply_to limits h step) ≡ true) × (reply ≡ Refused OutOfMemory)

abbrev pub IsAllowed : LimitNumbers → History → Step → Reply → Type 0
IsAllowed limits h step reply = (reply ≡ reply_to limits h step) ⊎ WantsMemory limits h step reply

-- each reply is allowed by the history before it
abbrev pub LawfulHistory : LimitNumbers → History → Type 0
LawfulHistory limits [] = Unit {0}
LawfulHistory limits (e ∷ h) = IsAllowed limits h e.0 e.1 × LawfulHistory limits h
