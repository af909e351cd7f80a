-- What a loop is told of boards, and how far it was told of each.
use Rattle.std.specs.Prelude.{◌≡◌, ◌==◌, ◌+◌, ℕ, min, Bool, true, false, cond, List, [], ◌∷◌, ◌++◌, length, take, slice_get, Option, Some, None, option_map, unwrap_or}
use Rattle.c960_game.specs.declared.outcome.Outcome.{Outcome}
use Rattle.relay_hall.specs.Reading.{ShownBoard}
use Rattle.watch_port.specs.declared.board_event.Progress.{Progress}
use Rattle.watch_port.specs.declared.board_event.BoardEvent.{BoardEvent}
use Rattle.watch_port.specs.declared.board_event.BoardEvent.TheVariants.{Opened, Played, Ended}
use Rattle.watch_port.specs.Copies.{changed_at}

-- ---- How far a loop was told of boards.

abbrev pub one_more : Progress → Progress
one_more t = record t { moves = min (t.moves + 1) 65535 }

abbrev pub over : Progress → Progress
over t = record t { is_over = true }

-- one more event was told
abbrev pub told_after : List Progress → BoardEvent → List Progress
told_after ts (Opened name start) = ts ++ (record { moves = 0; is_over = false }) ∷ []
told_after ts (Played at m) = changed_at one_more at ts
told_after ts (Ended at outcome) = changed_at over at ts

abbrev pub told_from : List Progress → List BoardEvent → List Progress
told_from ts [] = ts
told_from ts (x ∷ xs) = told_from (told_after ts x) xs

-- how far, of each board, by all that was told
abbrev pub told_by : List BoardEvent → List Progress
told_by sent = told_from [] sent

-- how many moves of the board of this index, and whether of its end
abbrev pub moves_told : List BoardEvent → ℕ → ℕ
moves_told sent at = unwrap_or (option_map (λ (t : Progress). t.moves) (slice_get (told_by sent) at)) 0

abbrev pub is_told_of_the_end : List BoardEvent → ℕ → Bool
is_told_of_the_end sent at = unwrap_or (option_map (λ (t : Progress). t.is_over) (slice_get (told_by sent) at)) false

-- ---- What it lacks.

-- that a board was opened, if it is the next of which the loop was not told
abbrev pub opening_of : List BoardEvent → ℕ → ShownBoard → List BoardEvent
opening_of sent at b = cond (at == length (told_by sent)) (Opened b.name b.game.start ∷ []) []

-- the end, if there is one and it was not told of it
abbrev pub end_told : ℕ → Option Outcome → Bool → List BoardEvent
end_told at None told = []
end_told at (Some outcome) told = cond told [] (Ended at outcome ∷ [])

abbrev pub end_of : List BoardEvent → ℕ → ShownBoard → List BoardEvent
end_of sent at b = end_told at b.game.outcome (is_told_of_the_end sent at)

-- it was told all of this behind what it had been told before, or the first part of it
abbrev pub IsPut : List BoardEvent → List BoardEvent → Bool → List BoardEvent → Type 0
IsPut before events true after = after ≡ before ++ events
IsPut before events false after = (k : ℕ) × (after ≡ before ++ take k events)
