-- Which entries a hall accepts, one after another, by the games that it has.
use Rattle.std.specs.Prelude.{◌≡◌, ℕ, is_some, List, [], ◌∷◌, ◌++◌, length, Option, Ok}
use Rattle.std.specs.Map.{lookup}
use Rattle.c960_game.specs.declared.outcome.Outcome.{Outcome}
use Rattle.c960_game.specs.GameRecord.{GameRecord}
use Rattle.c960_game.specs.Limits.{LimitNumbers}
use Rattle.c960_game.specs.Record.{opened, with_move}
use Rattle.relay_core.specs.BoardAnswers.{end_answer_at, ended_by, play_answer_at}
use Rattle.relay_core.specs.Name.{same_name}
use Rattle.relay_core.specs.Refusals.{first_refusal, open_grounds}
use Rattle.relay_hall.specs.Record.{FloorRecord, games_of}
use Rattle.relay_hall.specs.Steps.{change_value}
use Rattle.relay_journal.specs.declared.entry.Entry.{Entry}
use Rattle.relay_journal.specs.declared.entry.Entry.TheVariants.{Opens, Plays, Ends}

-- the games of boards, under their names
abbrev pub Games : Type 0
Games = List (List ℕ × GameRecord)

-- no ground refuses an entry, given the games, and it leads to these
abbrev pub Fits : LimitNumbers → Games → Entry → Games → Type 0
Fits limits gs (Opens name start key) hs =
    (first_refusal (open_grounds (is_some (lookup (same_name name) gs)) start (length gs) limits.boards) ≡ Ok tt)
    × (hs ≡ gs ++ (name, opened start limits.plies) ∷ [])
Fits limits gs (Plays name m) hs =
    (played : ℕ × Option Outcome) × (play_answer_at m (lookup (same_name name) gs) ≡ Ok played)
    × (hs ≡ change_value (same_name name) (λ g. with_move g m) gs)
Fits limits gs (Ends name ending) hs =
    (outcome : Outcome) × (end_answer_at ending (lookup (same_name name) gs) ≡ Ok outcome) × (hs ≡ change_value (same_name name) (ended_by ending) gs)

-- the same of each of these, one after another
abbrev pub AllFit : LimitNumbers → Games → List Entry → Games → Type 0
AllFit limits gs [] hs = hs ≡ gs
AllFit limits gs (j ∷ js) hs = (mid : Games) × Fits limits gs j mid × AllFit limits mid js hs

-- these entries are accepted with some boards, and lead to the games of others of the same limits
pub record FitsOn (f : FloorRecord) (js : List Entry) (l : FloorRecord) : Type 0 where
  pub fits : AllFit f.limits (games_of f) js (games_of l)
  pub limits : l.limits ≡ f.limits
