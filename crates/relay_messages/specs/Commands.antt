-- What the object of a command gives: the step; or None if a key is missing, there is a key too many, or a value has another form.
-- An object has no key too many if it has as many members as the command has keys, `cmd` included.
use Rattle.std.specs.Prelude.{ℕ, ◌==◌, Bool, false, cond, is_some, List, Option, Some, None, option_map, option_and_then, Result, Ok, Err, codes}
use Rattle.std.specs.Option.{ok_or}
use Rattle.std.specs.Str.{bytes_eq}
use Rattle.serde_json.specs.Data.{Data}
use Rattle.serde_json.specs.Find.{as_object}
use Rattle.c960_game.specs.declared.ending.Ending.{Ending}
use Rattle.c960_game.specs.declared.ending.Ending.TheVariants.{Resigns, Agreed, Abandoned, ClaimThreefold, ClaimFifty, LosesOnTime, Decided}
use Rattle.relay_core.specs.declared.step.Step.{Step}
use Rattle.relay_core.specs.declared.step.Step.TheVariants.{Open, Submit, End, Follow, Take, Leave}
use Rattle.relay_messages.specs.declared.fault.MessageFault.{MessageFault}
use Rattle.relay_messages.specs.declared.fault.MessageFault.TheVariants.{NotObject, UnknownCommand, BadField}
use Rattle.relay_messages.specs.declared.watch_command.WatchCommand.{WatchCommand}
use Rattle.relay_messages.specs.declared.watch_command.WatchCommand.TheVariants as watch
use Rattle.relay_messages.specs.Fields.{member_count, text_at, board_at, start_at, from_at, has_from, spectator_at, move_at, side_at, result_at}

-- this result, if the object has n members
abbrev pub with_members : {A : Type 0} → ℕ → Data → Option A → Option A
with_members n d found = cond (member_count d == n) found None

-- {"cmd":"open","board":"b1","start":518}
abbrev pub open_in : Data → Option Step
open_in d = with_members 3 d (option_and_then (λ board. option_map (λ start. Open board start) (start_at d)) (board_at d))

-- {"cmd":"submit","board":"b1","move":"e2e4"}
abbrev pub submit_in : Data → Option Step
submit_in d = with_members 3 d (option_and_then (λ board. option_map (λ m. Submit board m) (move_at d)) (board_at d))

-- `resign`, `threefold`, `fifty` and `time` name a side, and `decided` names a result; `agreed` and `abandoned` allow neither
abbrev pub ending_named : Data → List ℕ → Option Ending
ending_named d how =
    cond (bytes_eq how (codes "resign")) (with_members 4 d (option_map Resigns (side_at d)))
    (cond (bytes_eq how (codes "threefold")) (with_members 4 d (option_map ClaimThreefold (side_at d)))
    (cond (bytes_eq how (codes "fifty")) (with_members 4 d (option_map ClaimFifty (side_at d)))
    (cond (bytes_eq how (codes "time")) (with_members 4 d (option_map LosesOnTime (side_at d)))
    (cond (bytes_eq how (codes "decided")) (with_members 4 d (option_map Decided (result_at d)))
    (cond (bytes_eq how (codes "agreed")) (with_members 3 d (Some Agreed))
    (cond (bytes_eq how (codes "abandoned")) (with_members 3 d (Some Abandoned)) None))))))

abbrev pub ending_in : Data → Option Ending
ending_in d = option_and_then (ending_named d) (text_at (codes "how") d)

-- {"cmd":"end","board":"b1","how":"agreed"}, {"cmd":"end","board":"b1","how":"resign","side":"white"}
-- and {"cmd":"end","board":"b1","how":"decided","result":"1-0"}
abbrev pub end_in : Data → Option Step
end_in d = option_and_then (λ board. option_map (λ ending. End board ending) (ending_in d)) (board_at d)

-- `from` if it is there, or else no place
abbrev pub from_in : Data → Option (Option ℕ)
from_in d = cond (has_from d) (with_members 4 d (option_map Some (from_at d))) (with_members 3 d (Some None))

-- {"cmd":"follow","board":"b1","spectator":1} and {"cmd":"follow","board":"b1","spectator":1,"from":0}
abbrev pub follow_in : Data → Option Step
follow_in d = option_and_then (λ board. option_and_then (λ who. option_map (λ from. Follow who board from) (from_in d))
    (spectator_at d)) (board_at d)

-- {"cmd":"take","spectator":1}
abbrev pub take_in : Data → Option Step
take_in d = with_members 2 d (option_map (λ who. Take who) (spectator_at d))

-- {"cmd":"leave","spectator":1}
abbrev pub leave_in : Data → Option Step
leave_in d = with_members 2 d (option_map (λ who. Leave who) (spectator_at d))

-- the command whose name is in `cmd`
unfoldable pub command_named : Data → List ℕ → Result Step MessageFault
command_named d name =
    cond (bytes_eq name (codes "open")) (ok_or (open_in d) BadField)
    (cond (bytes_eq name (codes "submit")) (ok_or (submit_in d) BadField)
    (cond (bytes_eq name (codes "end")) (ok_or (end_in d) BadField)
    (cond (bytes_eq name (codes "follow")) (ok_or (follow_in d) BadField)
    (cond (bytes_eq name (codes "take")) (ok_or (take_in d) BadField)
    (cond (bytes_eq name (codes "leave")) (ok_or (leave_in d) BadField)
    (Err UnknownCommand))))))

abbrev pub command_by : Data → Option (List ℕ) → Result Step MessageFault
command_by d (Some name) = command_named d name
command_by d None = Err UnknownCommand

-- what a JSON value gives
unfoldable pub command_in : Data → Result Step MessageFault
command_in d = cond (is_some (as_object d)) (command_by d (text_at (codes "cmd") d)) (Err NotObject)

-- ---- On the watch port.

abbrev pub is_boards : Option (List ℕ) → Bool
is_boards (Some name) = bytes_eq name (codes "boards")
is_boards None = false

-- {"cmd":"boards"}
abbrev pub boards_in : Data → Option WatchCommand
boards_in d = with_members 1 d (Some watch.Boards)

-- a command of the main port
abbrev pub on_both_ports : Result Step MessageFault → Result WatchCommand MessageFault
on_both_ports (Ok step) = Ok (watch.Step step)
on_both_ports (Err fault) = Err fault

-- what a JSON value gives on the watch port: `boards`, or what it gives on the main port
unfoldable pub watch_command_in : Data → Result WatchCommand MessageFault
watch_command_in d = cond (is_boards (text_at (codes "cmd") d)) (ok_or (boards_in d) BadField) (on_both_ports (command_in d))
