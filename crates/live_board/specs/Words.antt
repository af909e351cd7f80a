-- The words of a live board's table: a header, a status, a cursor for each slot, and the moves.
use Rattle.std.specs.Prelude.{ℕ, ◌+◌, ◌*◌, ◌-◌, ◌/◌, ◌%◌, ◌==◌, nat_lt, if◌then◌else◌, Option, Some, None}
use Rattle.c960_board.specs.declared.piece.Colour.TheVariants.{White, Black}
use Rattle.c960_game.specs.declared.outcome.Outcome.{Outcome}
use Rattle.c960_game.specs.declared.outcome.Outcome.TheVariants.{Checkmate, Stalemate, Resigned, Agreed, Abandoned, Threefold, Fifty, Fivefold, SeventyFive, LostOnTime, Decided}
use Rattle.c960_game.specs.declared.result.Result.TheVariants.{WhiteWins, BlackWins, Draw}
use Rattle.c960_game.specs.Outcome.{outcome_code}
use Rattle.live_board.specs.declared.words.TheConstants.{FIELD, MARK}
use Rattle.live_board.specs.declared.limits.BoardLimits.{BoardLimits}
use Rattle.live_board.specs.SharedBoard.{SharedFollower, next}
use Rattle.live_board.specs.declared.note.Note.{Note}
use Rattle.live_board.specs.declared.note.Note.TheVariants.{Vacant, Open, Closed}

-- ---- Where they stand: the header is word 0, the status word 1.

-- the cursor of a slot
abbrev pub cursor_at : ℕ → ℕ
cursor_at k = k + 2

-- the slot of a cursor
abbrev pub slot_of : ℕ → ℕ
slot_of word = word - 2

-- the move at a place of the log
abbrev pub move_word_at : BoardLimits → ℕ → ℕ
move_word_at limits place = limits.followers + 2 + place

-- how many words there are
abbrev pub word_count : BoardLimits → ℕ
word_count limits = limits.followers + 2 + limits.plies

-- ---- What they say.

-- the header, which never changes
abbrev pub header_word : ℕ → ℕ → ℕ
header_word start capacity = start + FIELD * capacity

-- 0 while the game goes on, else the outcome's code
abbrev pub outcome_number : Option Outcome → ℕ
outcome_number None = 0
outcome_number (Some o) = outcome_code o

-- the status: the log's length and the outcome
abbrev pub status_word : ℕ → Option Outcome → ℕ
status_word long o = long + FIELD * outcome_number o

-- what a cursor says besides the next place: 1 if it is open, closing + 2 if it is closed
abbrev pub mark : Option ℕ → ℕ
mark None = 1
mark (Some c) = c + 2

-- a follower's cursor: the place of the move that it takes next, and its mark 2 ^ 32 higher
abbrev pub cursor_of : ℕ → Option ℕ → ℕ
cursor_of place closing = place + MARK * mark closing

-- a cursor: 0 if nobody follows
abbrev pub cursor_word : Option SharedFollower → ℕ
cursor_word None = 0
cursor_word (Some f) = cursor_of (next f) f.closing

-- ---- What is read off the words.

-- the length that a status says
abbrev pub length_in : ℕ → ℕ
length_in w = w % FIELD

-- the outcome of a number
abbrev pub outcome_numbered : ℕ → Option Outcome
outcome_numbered n =
    if n == 1 then Some (Checkmate White) else if n == 2 then Some (Checkmate Black) else if n == 3 then Some Stalemate
    else if n == 4 then Some (Resigned White) else if n == 5 then Some (Resigned Black) else if n == 6 then Some Agreed
    else if n == 7 then Some Abandoned else if n == 8 then Some Threefold else if n == 9 then Some Fifty
    else if n == 10 then Some Fivefold else if n == 11 then Some SeventyFive else if n == 12 then Some (LostOnTime White)
    else if n == 13 then Some (LostOnTime Black) else if n == 14 then Some (Decided WhiteWins)
    else if n == 15 then Some (Decided BlackWins) else if n == 16 then Some (Decided Draw) else None

-- the outcome that a status says
abbrev pub outcome_in : ℕ → Option Outcome
outcome_in w = outcome_numbered (w / FIELD)

-- the next place that a cursor says
abbrev pub place_in : ℕ → ℕ
place_in w = w % MARK

-- the closing that a cursor says
abbrev pub closing_in : ℕ → Option ℕ
closing_in w = if nat_lt 1 (w / MARK) then Some (w / MARK - 2) else None

-- the joining place that a note has
abbrev pub joined_noted : Note → ℕ
joined_noted (Open joined least) = joined
joined_noted Vacant = 0
joined_noted (Closed c) = 0

-- what a note becomes when its cursor is loaded and says w
abbrev pub note_after : Note → ℕ → Note
note_after n w =
    if w == 0 then Vacant
    else (if w / MARK == 1 then Open (joined_noted n) (place_in w) else Closed (w / MARK - 2))
