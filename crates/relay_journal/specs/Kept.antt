-- What outlives the process of a hall, and the entries that stand for it.
use Rattle.std.specs.Prelude.{ℕ, List, [], ◌∷◌, ◌++◌, map, Option, Some, None}
use Rattle.c960_board.specs.Moves.{Triple}
use Rattle.c960_game.specs.declared.ending.Ending.{Ending}
use Rattle.c960_game.specs.declared.outcome.Outcome.{Outcome}
use Rattle.c960_game.specs.Ending.{named_outcome}
use Rattle.c960_game.specs.Ends.{own_outcome}
use Rattle.relay_core.specs.declared.step.Step.{Step}
use Rattle.relay_core.specs.declared.step.Step.TheVariants.{Open, Submit, End, Follow, Take, Leave}
use Rattle.relay_core.specs.Name.{same_name}
use Rattle.relay_hall.specs.Record.{FloorRecord, HallBoard}
use Rattle.relay_hall.specs.Steps.{change_value}
use Rattle.relay_journal.specs.declared.entry.Entry.{Entry}
use Rattle.relay_journal.specs.declared.entry.Entry.TheVariants.{Opens, Plays, Ends}

-- Of a board: its game, and the key that it was opened with. Not its table, the number of the connection that opened it, or the limits.
pub record KeptBoard : Type 0 where
  pub start : ℕ
  pub log : List Triple
  pub outcome : Option Outcome
  pub key : Option (List ℕ)

abbrev pub kept_board : HallBoard → KeptBoard
kept_board b = record { start = b.game.start; log = b.game.log; outcome = b.game.outcome; key = b.owner.key }

-- of all boards, in the order of opening
abbrev pub kept_of : FloorRecord → List (List ℕ × KeptBoard)
kept_of f = map (λ e. (e.0, kept_board e.1)) f.boards

-- ---- The boards that entries lead to.

abbrev pub new_kept : ℕ → Option (List ℕ) → KeptBoard
new_kept start key = record { start = start; log = []; outcome = None; key = key }

abbrev pub kept_move : Triple → KeptBoard → KeptBoard
kept_move m b = record b { log = b.log ++ m ∷ []; outcome = own_outcome b.start (b.log ++ m ∷ []) }

abbrev pub kept_end : Ending → KeptBoard → KeptBoard
kept_end ending b = record b { outcome = Some (named_outcome ending) }

-- the boards after one more entry
abbrev pub replay_one : List (List ℕ × KeptBoard) → Entry → List (List ℕ × KeptBoard)
replay_one boards (Opens name start key) = boards ++ (name, new_kept start key) ∷ []
replay_one boards (Plays name m) = change_value (same_name name) (kept_move m) boards
replay_one boards (Ends name ending) = change_value (same_name name) (kept_end ending) boards

-- after these, the first of them first
abbrev pub replayed : List (List ℕ × KeptBoard) → List Entry → List (List ℕ × KeptBoard)
replayed boards [] = boards
replayed boards (e ∷ es) = replayed (replay_one boards e) es

-- ---- The commands of entries.

-- the step that an entry keeps
abbrev pub step_of : Entry → Step
step_of (Opens name start key) = Open name start
step_of (Plays name m) = Submit name m
step_of (Ends name ending) = End name ending

-- the key of who made it, which is kept of an open alone
abbrev pub key_of : Entry → Option (List ℕ)
key_of (Opens name start key) = key
key_of (Plays name m) = None
key_of (Ends name ending) = None

-- an entry that is kept without a key, if there is none
abbrev pub keyless : Option (List ℕ) → Entry → Option Entry
keyless None e = Some e
keyless (Some key) e = None

-- the entry of a step, with the key that is kept with it; only an open has one, and a follow has no entry
abbrev pub entry_with : Option (List ℕ) → Step → Option Entry
entry_with key (Open name start) = Some (Opens name start key)
entry_with key (Submit name m) = keyless key (Plays name m)
entry_with key (End name ending) = keyless key (Ends name ending)
entry_with key (Follow who name from) = None
entry_with key (Take who) = None
entry_with key (Leave who) = None
