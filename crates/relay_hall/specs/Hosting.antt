-- The boards that a hall keeps, what it shows of them, and what is kept true of them.
use Rattle.std.specs.Prelude.{◌≡◌, ◌≤◌, ◌+◌, ℕ, Bool, cond, is_some, List, [], length, map, Option, Some, None, Result, Err}
use Rattle.std.specs.Map.{lookup, set_value}
use Rattle.c960_board.specs.declared.parts.Parts.{Parts}
use Rattle.c960_game.specs.declared.outcome.Outcome.TheVariants.{Abandoned}
use Rattle.c960_game.specs.declared.refusal.Refusal.{Refusal}
use Rattle.c960_game.specs.declared.refusal.Refusal.TheVariants.{NoSuchBoard}
use Rattle.c960_game.specs.GameRecord.{GameRecord}
use Rattle.c960_game.specs.Limits.{LimitNumbers}
use Rattle.relay_core.specs.Held.{Held}
use Rattle.relay_core.specs.Held.Stands.{IsKept}
use Rattle.relay_core.specs.Name.{same_name}
use Rattle.live_board.specs.Board.{game_of}
use Rattle.live_board.specs.declared.limits.BoardLimits.{BoardLimits}
use Rattle.live_board.specs.Seats.{BoardSeat, FollowerSeat}
use Rattle.live_board.specs.Views.{finished}
use Rattle.relay_hall.specs.declared.hosted.Hosted.{Hosted}
use Rattle.relay_hall.specs.declared.owner.Owner.{Owner}
use Rattle.relay_hall.specs.Record.{HallBoard}
use Rattle.relay_hall.specs.Steps.{Hands, board_limits}

abbrev pub Entries : Type 0
Entries = List (List ℕ × Hosted)

-- ---- What is shown.

abbrev pub game_in : Hosted → GameRecord
game_in h = game_of h.board.knows

abbrev pub limits_in : Hosted → BoardLimits
limits_in h = h.board.knows.setup.limits

abbrev pub shown_board : Hosted → HallBoard
shown_board h = record { table = h.board.table; game = game_in h; owner = h.owner }

abbrev pub rows : Entries → List (List ℕ × HallBoard)
rows entries = map (λ e. (e.0, shown_board e.1)) entries

abbrev pub games : Entries → List (List ℕ × GameRecord)
games entries = map (λ e. (e.0, game_in e.1)) entries

abbrev pub limits_at : Entries → List (List ℕ × BoardLimits)
limits_at entries = map (λ e. (e.0, limits_in e.1)) entries

-- the same limits at each name
abbrev pub limits_each : BoardLimits → Entries → List (List ℕ × BoardLimits)
limits_each limits entries = map (λ e. (e.0, limits)) entries

abbrev pub held_by : LimitNumbers → Entries → Held
held_by limits entries = record { limits = limits; boards = games entries; followers = [] }

-- ---- What is kept.

pub record IsFloor (limits : LimitNumbers) (entries : Entries) (room : ℕ) : Type 0 where
  -- a history leads to the games
  pub kept : IsKept (held_by limits entries)
  -- each board has the hall's limits
  pub limited : limits_at entries ≡ limits_each (board_limits limits) entries
  -- as many boards as the limits allow fit without memory
  pub fits : limits.boards ≤ length entries + room

-- ---- What a call changes.

-- of what is shown only the game has changed, like this; and the limits are as they were
pub record Turned (f : GameRecord → GameRecord) (b c : Hosted) : Type 0 where
  pub table : c.board.table ≡ b.board.table
  pub owner : c.owner ≡ b.owner
  pub game : game_in c ≡ f (game_in b)
  pub limits : limits_in c ≡ limits_in b

-- one board has changed
abbrev pub Swapped : (Hosted → Hosted → Type 0) → List ℕ → Entries → Entries → Type 0
Swapped R name old new = (b : Hosted) × (c : Hosted) × (lookup (same_name name) old ≡ Some b) × R b c
    × (new ≡ set_value (same_name name) old c)

-- the answer to a follow of a board that was looked up
abbrev pub HandsAt : Option Hosted → Option ℕ → Result (FollowerSeat × Parts) Refusal → Type 0
HandsAt None from answer = answer ≡ Err NoSuchBoard
HandsAt (Some h) from answer = Hands (limits_in h) (shown_board h) from answer

-- a board whose game was not over, with that game abandoned
abbrev pub abandoned_board : BoardSeat → BoardSeat
abandoned_board b = cond (is_some b.knows.outcome) b (record b { knows = finished (Some Abandoned) b.knows })

abbrev pub abandoned_by : (Owner → Bool) → Hosted → Hosted
abandoned_by gone h = cond (gone h.owner) (record h { board = abandoned_board h.board }) h
