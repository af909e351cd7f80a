-- What steps and their replies say of the boards. Nothing here mentions a queue, a count or a flag: all is read off the whole history.
use Rattle.std.specs.Prelude.{ℕ, Bool, true, false, ◌&&◌, cond, List, [], ◌∷◌, ◌++◌, Option, Some, None}
use Rattle.std.specs.Map.{lookup}
use Rattle.c960_board.specs.Moves.{Triple}
use Rattle.c960_game.specs.declared.outcome.Outcome.{Outcome}
use Rattle.c960_game.specs.Ending.{named_outcome}
use Rattle.c960_game.specs.Ends.{own_outcome}
use Rattle.relay_core.specs.declared.step.Step.{Step}
use Rattle.relay_core.specs.declared.step.Step.TheVariants.{Open, Submit, End}
use Rattle.relay_core.specs.declared.reply.Reply.{Reply}
use Rattle.relay_core.specs.declared.reply.Reply.TheVariants.{Refused}
use Rattle.relay_core.specs.Name.{same_name}

-- the steps made and their replies, the newest first
abbrev pub History : Type 0
History = List (Step × Reply)

-- a step is accepted if its reply is not a refusal
abbrev pub is_accepted : Reply → Bool
is_accepted (Refused refusal) = false
is_accepted _ = true

-- the boards opened, each with the number of its start, in the order of opening
abbrev pub opened_after : List (List ℕ × ℕ) → Step → Reply → List (List ℕ × ℕ)
opened_after boards (Open board start) reply = cond (is_accepted reply) (boards ++ (board, start) ∷ []) boards
opened_after boards _ reply = boards

abbrev pub opened : History → List (List ℕ × ℕ)
opened [] = []
opened (e ∷ h) = opened_after (opened h) e.0 e.1

-- the start of a board, if it was opened
abbrev pub start_of : History → List ℕ → Option ℕ
start_of h board = lookup (same_name board) (opened h)

-- the moves of the accepted submits to a board, in order
abbrev pub log_after : List ℕ → List Triple → Step → Reply → List Triple
log_after board moves (Submit to m) reply = cond (is_accepted reply && same_name to board) (moves ++ m ∷ []) moves
log_after board moves _ reply = moves

abbrev pub log : History → List ℕ → List Triple
log [] board = []
log (e ∷ h) board = log_after board (log h board) e.0 e.1

-- the outcome that an accepted end of a board names
abbrev pub named_after : List ℕ → Option Outcome → Step → Reply → Option Outcome
named_after board named (End of ending) reply =
    cond (is_accepted reply && same_name of board) (Some (named_outcome ending)) named
named_after board named _ reply = named

abbrev pub named : History → List ℕ → Option Outcome
named [] board = None
named (e ∷ h) board = named_after board (named h board) e.0 e.1

-- the first of two outcomes
abbrev pub or_else : Option Outcome → Option Outcome → Option Outcome
or_else (Some outcome) next = Some outcome
or_else None next = next

-- how the game of a board with this start ended: as an accepted end named it, or else as its log ends by itself, by mate, by stalemate
-- or by a draw that needs no claim
abbrev pub end_of : History → ℕ → List ℕ → Option Outcome
end_of h start board = or_else (named h board) (own_outcome start (log h board))

-- the history extended by these steps with these replies, one after another
abbrev pub lived : History → List Step → List Reply → History
lived h [] replies = h
lived h (s ∷ steps) [] = h
lived h (s ∷ steps) (reply ∷ replies) = lived ((s, reply) ∷ h) steps replies
