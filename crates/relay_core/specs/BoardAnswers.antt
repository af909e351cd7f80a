-- What a call on a board that was looked up by its name answers.
use Rattle.std.specs.Prelude.{ℕ, length, Option, Some, None, unwrap_or, Result, Ok, Err}
use Rattle.c960_board.specs.Moves.{Triple}
use Rattle.c960_game.specs.declared.ending.Ending.{Ending}
use Rattle.c960_game.specs.declared.outcome.Outcome.{Outcome}
use Rattle.c960_game.specs.declared.refusal.Refusal.{Refusal}
use Rattle.c960_game.specs.declared.refusal.Refusal.TheVariants.{NoSuchBoard}
use Rattle.c960_game.specs.Ending.{named_outcome}
use Rattle.c960_game.specs.Record.{play_answer, end_answer, with_outcome}
use Rattle.c960_game.specs.GameRecord.{GameRecord}

-- the answer to a move with the place at which it was made
abbrev pub with_place : ℕ → Result (Option Outcome) Refusal → Result (ℕ × Option Outcome) Refusal
with_place place (Ok outcome) = Ok (place, outcome)
with_place place (Err refusal) = Err refusal

abbrev pub play_answer_at : Triple → Option GameRecord → Result (ℕ × Option Outcome) Refusal
play_answer_at m None = Err NoSuchBoard
play_answer_at m (Some game) = with_place (length game.log) (play_answer game m)

abbrev pub end_answer_at : Ending → Option GameRecord → Result Outcome Refusal
end_answer_at ending None = Err NoSuchBoard
end_answer_at ending (Some game) = end_answer game ending

-- the game with the outcome that an ending names
abbrev pub ended_by : Ending → GameRecord → GameRecord
ended_by ending game = with_outcome game (named_outcome ending)

abbrev pub outcome_at : Option GameRecord → Option Outcome
outcome_at None = None
outcome_at (Some game) = game.outcome

abbrev pub length_at : Option GameRecord → ℕ
length_at None = 0
length_at (Some game) = length game.log

-- the place at which a follow of a game joins
abbrev pub place_in : Option ℕ → GameRecord → ℕ
place_in from game = unwrap_or from (length game.log)
