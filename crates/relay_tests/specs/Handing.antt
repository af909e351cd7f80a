-- Which board is handed out after a history.
use Rattle.std.specs.Prelude.{◌≡◌, ℕ, List, Option, Some, None, MatchOption}
use Rattle.c960_game.specs.Game960.{Game960}
use Rattle.relay_core.specs.History.{History, start_of, log, end_of}
use Rattle.live_board.specs.declared.view.View.{View}
use Rattle.live_board.specs.Seats.{BoardSeat}

-- A board's view shows the start that the accepted Open of the name gave; the moves of the accepted submits to that name, in order, which
-- are a legal game from this start; and that game's end.
pub record IsGameOf (h : History) (name : List ℕ) (v : View) : Type 0 where
  pub start : start_of h name ≡ Some v.setup.start
  pub log : v.log ≡ log h name
  pub outcome : v.outcome ≡ end_of h v.setup.start name
  pub legal : Game960 v.setup.start v.log

-- no board only if none of that name was opened
abbrev pub HandedOut : History → List ℕ → Option BoardSeat → Type 0
HandedOut h name found = MatchOption found (start_of h name ≡ None) (λ b. IsGameOf h name b.knows)
