-- The answers to the moves and the endings of a game, and what is true of every game.
use Rattle.std.specs.Prelude.{ℕ, ◌≡◌, ◌≤◌, ◌⊎◌, ◌==◌, List, [], ◌∷◌, ◌++◌, length, Option, Some, None, is_some, Result, Ok, Err, cond}
use Rattle.c960_board.specs.Moves.{Triple}
use Rattle.c960_game.specs.declared.limits.TheConstants.{MOST_PLIES}
use Rattle.c960_game.specs.declared.ending.Ending.{Ending}
use Rattle.c960_game.specs.declared.outcome.Outcome.{Outcome}
use Rattle.c960_game.specs.declared.refusal.Refusal.{Refusal}
use Rattle.c960_game.specs.declared.refusal.Refusal.TheVariants.{GameOver, Illegal, LogFull, ClaimRefused}
use Rattle.c960_game.specs.Ending.{named_outcome}
use Rattle.c960_game.specs.Ends.{own_outcome}
use Rattle.c960_game.specs.Game960.{Game960}
use Rattle.c960_game.specs.Ground.{Ground}
use Rattle.c960_game.specs.Tests.Ground.{has_ground}
use Rattle.c960_game.specs.Tests.Moves.{is_legal_move}
use Rattle.c960_game.specs.Positions.{last_position}
use Rattle.c960_game.specs.GameRecord.{GameRecord}

abbrev pub opened : ℕ → ℕ → GameRecord
opened n k = record { start = n; plies = k; log = []; outcome = None }

-- ---- A move.

-- the answer to a move: the first refusal whose ground holds, else the outcome of the new position, if any
unfoldable pub play_answer : GameRecord → Triple → Result (Option Outcome) Refusal
play_answer g m =
    cond (is_some g.outcome) (Err GameOver)
    (cond (length g.log == g.plies) (Err LogFull)
    (cond (is_legal_move (last_position g.start g.log) m) (Ok (own_outcome g.start (g.log ++ m ∷ []))) (Err Illegal)))

-- the game with another move
abbrev pub with_move : GameRecord → Triple → GameRecord
with_move g m = record g { log = g.log ++ m ∷ []; outcome = own_outcome g.start (g.log ++ m ∷ []) }

-- ---- An ending.

-- the answer to an ending: the first refusal whose ground holds, else the outcome that it names
unfoldable pub end_answer : GameRecord → Ending → Result Outcome Refusal
end_answer g e =
    cond (is_some g.outcome) (Err GameOver)
    (cond (has_ground g.start g.log e) (Ok (named_outcome e)) (Err ClaimRefused))

-- the game with that outcome
abbrev pub with_outcome : GameRecord → Outcome → GameRecord
with_outcome g o = record g { outcome = Some o }

-- ---- What is true of every game.

-- the outcome is the one that the log has by itself, if any; or the log has none, and an ending with its ground names it
abbrev pub IsOutcome : ℕ → List Triple → Option Outcome → Type 0
IsOutcome n l o =
    (o ≡ own_outcome n l)
    ⊎ ((own_outcome n l ≡ None) × (e : Ending) × Ground n l e × (o ≡ Some (named_outcome e)))

pub record IsGame (g : GameRecord) : Type 0 where
  pub legal : Game960 g.start g.log
  pub ended : IsOutcome g.start g.log g.outcome
  pub within : length g.log ≤ g.plies
  pub most_plies : g.plies ≤ MOST_PLIES
