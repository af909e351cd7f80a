-- The rule of a take, by places of the log.
use Rattle.std.specs.Prelude.{ℕ, ◌==◌, nat_lt, Bool, false, cond, [], Option, Some, None}
use Rattle.c960_game.specs.declared.outcome.Outcome.{Outcome}
use Rattle.relay_core.specs.declared.reply.Taken.{Taken}
use Rattle.relay_core.specs.declared.reply.Taken.TheVariants.{Cut}
use Rattle.relay_core.specs.Replies.{taken_of}

-- whether a follower was closed and stands at the length at which it was
abbrev pub is_at : Option ℕ → ℕ → Bool
is_at None next = false
is_at (Some closing) next = closing == next

-- What a take answers without a move; none if it takes the move at the place `next` of the log. The arguments are the length at which the
-- follower was closed, if it was, that place, the log's length, and the game's outcome, if it is over.
abbrev pub without_move : Option ℕ → ℕ → ℕ → Option Outcome → Option Taken
without_move closing next long over =
    cond (is_at closing next) (Some Cut) (cond (nat_lt next long) None (Some (taken_of next over None [])))
