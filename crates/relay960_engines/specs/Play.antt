-- The answers to the lines of a live game, and what a whole run over them writes.
use Rattle.std.specs.Prelude.{ℕ, ◌≡◌, ◌<◌, ◌≤◌, ◌⊎◌, List, [], ◌∷◌, ◌++◌, Option, Some, None, Result, Ok, Err, codes}
use Rattle.std.specs.List.{concat}
use Rattle.std.specs.Io.KnownBytes.{Appends, Keeps}
use Rattle.c960_board.specs.declared.numbering.TheConstants.{STARTS}
use Rattle.c960_board.specs.declared.moves.fault.MoveFault.{MoveFault}
use Rattle.c960_board.specs.Fen.Canonical.{canonical}
use Rattle.c960_board.specs.MoveReading.{move_read}
use Rattle.c960_board.specs.Moves.{Triple}
use Rattle.c960_board.specs.MoveTexts.{move_fault_code, move_fault_name}
use Rattle.c960_game.specs.declared.limits.TheConstants.{MOST_PLIES}
use Rattle.c960_game.specs.declared.outcome.Outcome.{Outcome}
use Rattle.c960_game.specs.declared.refusal.Refusal.{Refusal}
use Rattle.c960_game.specs.Outcome.{outcome_text}
use Rattle.c960_game.specs.Positions.{last_position}
use Rattle.c960_game.specs.Record.{opened, play_answer, with_move}
use Rattle.c960_game.specs.GameRecord.{GameRecord}
use Rattle.c960_game.specs.Refusal.{refusal_code, refusal_name}
use Rattle.relay960_engines.specs.declared.bounds.Bounds.{Bounds}
use Rattle.relay960_engines.specs.declared.fault.RunFault.{RunFault}
use Rattle.relay960_engines.specs.declared.fault.RunFault.TheVariants.{Read, Write, TooLong, OutOfMemory, BadStart}
use Rattle.relay960_engines.specs.Lines.{lines_of}
use Rattle.relay960_engines.specs.Runs.{Known, Done, StoppedReading, StoppedWithin, StoppedPast, StoppedWithoutMemory}
use Rattle.relay960_engines.specs.Start.{refusal_line}
use Rattle.relay960_engines.specs.Writing.{AppendsPart, line, numbered_line}

-- ---- A line to its answer.

-- `refused 6 Illegal` and the like
abbrev pub refused_line : Refusal → List ℕ
refused_line r = numbered_line (codes "refused ") (refusal_code r) (refusal_name r)

-- `fault 1 Length` and the like
abbrev pub move_fault_line : MoveFault → List ℕ
move_fault_line f = numbered_line (codes "fault ") (move_fault_code f) (move_fault_name f)

-- the line of a move that ends the game, `over white mates` and the like
abbrev pub over_line : Option Outcome → List ℕ
over_line None = []
over_line (Some o) = concat (codes "over " ∷ outcome_text o ∷ codes "\n" ∷ [])

-- the FEN after an accepted move and, if it ends the game, the outcome; or else the refusal
abbrev pub played_lines : GameRecord → Triple → Result (Option Outcome) Refusal → List ℕ
played_lines g m (Ok outcome) = line (canonical (last_position g.start (g.log ++ m ∷ []))) ++ over_line outcome
played_lines g m (Err r) = refused_line r

abbrev pub game_played : GameRecord → Triple → Result (Option Outcome) Refusal → GameRecord
game_played g m (Ok outcome) = with_move g m
game_played g m (Err r) = g

abbrev pub lines_read : GameRecord → Result Triple MoveFault → List ℕ
lines_read g (Ok m) = played_lines g m (play_answer g m)
lines_read g (Err f) = move_fault_line f

abbrev pub game_read : GameRecord → Result Triple MoveFault → GameRecord
game_read g (Ok m) = game_played g m (play_answer g m)
game_read g (Err f) = g

-- the answer to a line, and the game after it
unfoldable pub line_answer : GameRecord → List ℕ → List ℕ
line_answer g l = lines_read g (move_read l)

unfoldable pub game_after : GameRecord → List ℕ → GameRecord
game_after g l = game_read g (move_read l)

-- ---- All lines to their answers.

unfoldable pub line_answers : GameRecord → List (List ℕ) → List ℕ
line_answers g [] = []
line_answers g (l ∷ ls) = line_answer g l ++ line_answers (game_after g l) ls

-- the answers to lines from the beginning of the game of start n
abbrev pub play_answers : ℕ → List (List ℕ) → List ℕ
play_answers n ls = line_answers (opened n MOST_PLIES) ls

-- what a whole run writes for the bytes that it reads
abbrev pub play_output : ℕ → List ℕ → List ℕ
play_output n bytes = play_answers n (lines_of bytes)

-- ---- What a run does: from what the reader holds and the writer was given before it, to what they are after it.

-- which bytes answer which lines in the game of start n
abbrev pub Plays : ℕ → List (List ℕ) → List ℕ → Type 0
Plays n ls bytes = bytes ≡ play_answers n ls

-- the same before a line for whose answer there was no memory: even so, the game has gone on with it
abbrev pub PlaysBefore : ℕ → List (List ℕ) → List ℕ → List ℕ → Type 0
PlaysBefore n ls bytes l = Plays n ls bytes

-- the input was read to its end, its output was written, and it has that many lines, within both bounds
abbrev pub Played : ℕ → Bounds → Known → Known → Known → Known → ℕ → Type 0
Played n bounds old_input new_input old_output new_output count =
    (n < STARTS) × Done (Plays n) bounds old_input new_input old_output new_output count

-- there is no such start: nothing was read, and the refusal was written
pub record NoStart (n : ℕ) (old_input new_input old_output new_output : Known) : Type 0 where
  pub unnumbered : STARTS ≤ n
  pub unread : Keeps old_input new_input
  pub written : Appends old_output new_output refusal_line

-- the same, and a prefix of the refusal was written
pub record NoStartPart (n : ℕ) (old_input new_input old_output new_output : Known) : Type 0 where
  pub unnumbered : STARTS ≤ n
  pub unread : Keeps old_input new_input
  pub written : AppendsPart old_output new_output refusal_line

-- what a run that ends with a fault has done
abbrev pub PlayStopped : ℕ → Bounds → Known → Known → Known → Known → RunFault → Type 0
PlayStopped n bounds old_input new_input old_output new_output Read =
    (n < STARTS) × StoppedReading (Plays n) bounds old_input new_input old_output new_output
PlayStopped n bounds old_input new_input old_output new_output Write =
    ((n < STARTS) × StoppedWithin (Plays n) bounds old_input new_input old_output new_output)
    ⊎ NoStartPart n old_input new_input old_output new_output
PlayStopped n bounds old_input new_input old_output new_output TooLong =
    (n < STARTS) × StoppedPast (Plays n) bounds old_input new_input old_output new_output
PlayStopped n bounds old_input new_input old_output new_output OutOfMemory =
    (n < STARTS) × StoppedWithoutMemory (Plays n) (PlaysBefore n) bounds old_input new_input old_output new_output
PlayStopped n bounds old_input new_input old_output new_output BadStart =
    NoStart n old_input new_input old_output new_output
