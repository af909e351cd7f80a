-- What is missing of boards in a journal, as far as a scribe sees that who knows of each only how many moves it noted, and whether its end.
use Rattle.std.specs.Prelude.{ℕ, ◌==◌, cond, ◌&&◌, List, [], ◌∷◌, ◌++◌, drop, length, map, Option, None, Some}
use Rattle.relay_hall.specs.Reading.{ShownBoard}
use Rattle.relay_journal.specs.declared.entry.Entry.{Entry}
use Rattle.relay_journal.specs.declared.entry.Entry.TheVariants.{Opens, Plays}
use Rattle.relay_journal.specs.declared.noted.Noted.{Noted}
use Rattle.relay_journal.specs.Differences.{ends_as, turn_of}
use Rattle.relay_journal.specs.Kept.{KeptBoard, new_kept}
use Rattle.relay_journal.specs.Scribes.{noted_of}

-- what is kept of a board that is looked at
abbrev pub kept_shown : ShownBoard → List ℕ × KeptBoard
kept_shown b = (b.name, record { start = b.game.start; log = b.game.log; outcome = b.game.outcome; key = b.owner.key })

-- the moves that are missing, and then the end, unless that was noted and no move is missing
abbrev pub behind_noted : List ℕ × KeptBoard → Noted → List Entry
behind_noted e n =
    map (λ m. Plays e.0 m) (drop n.plies e.1.log) ++ cond (n.is_over && (n.plies == length e.1.log)) [] (ends_as e.0 (turn_of e.1) None e.1.outcome)

-- behind what was noted of a board, if anything was
abbrev pub behind_one : List ℕ × KeptBoard → Option Noted → List Entry
behind_one e (Some n) = behind_noted e n
behind_one e None = Opens e.0 e.1.start e.1.key ∷ behind_noted e (noted_of (new_kept e.1.start e.1.key))

-- behind what was noted of the boards, in their order
abbrev pub behind_all : List Noted → List (List ℕ × KeptBoard) → List Entry
behind_all ns [] = []
behind_all [] (e ∷ es) = behind_one e None ++ behind_all [] es
behind_all (n ∷ ns) (e ∷ es) = behind_one e (Some n) ++ behind_all ns es
