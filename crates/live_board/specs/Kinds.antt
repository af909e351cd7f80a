-- The kinds of atomic step on a live board's table. Each says: if a table shows a board, and the seat that steps knows what the
-- first lines require, the table after the step shows the board after one event, which was allowed, or it shows the same board. Only that
-- seat's view changes. What the seat knows is read off its own view; what the other seats know plays no part.
use Rattle.std.specs.Prelude.{◌≡◌, ◌≢◌, ℕ, ◌+◌, ◌%◌, ◌^◌, ◌<◌, ◌≤◌, true, List, [], ◌∷◌, ◌++◌, length, replicate, slice_index, slice_set, Some, None}
use mathlib.Core.Option.{some}
use lib.ListN.{get_elem?}
use Rattle.atomic_table.specs.Table.{keeps, stepped, opening}
use Rattle.c960_board.specs.declared.numbering.TheConstants.{STARTS}
use Rattle.c960_board.specs.Moves.{Triple}
use Rattle.c960_board.specs.MoveTexts.{move_code}
use Rattle.c960_rules.specs.Legal.{Legal}
use Rattle.c960_game.specs.declared.ending.Ending.{Ending}
use Rattle.c960_game.specs.Ending.{named_outcome}
use Rattle.c960_game.specs.Ends.{own_outcome}
use Rattle.c960_game.specs.Ground.{Ground}
use Rattle.c960_game.specs.Positions.{last_position}
use Rattle.live_board.specs.Limits.{AreBoardLimits}
use Rattle.live_board.specs.SharedBoard.{SharedBoard, move_at}
use Rattle.live_board.specs.Events.{Open, Follow, Close, Submit, End, Take, Leave, Does, opened}
use Rattle.live_board.specs.declared.setup.BoardSetup.{BoardSetup}
use Rattle.live_board.specs.declared.note.Note.TheVariants.{Vacant, Open as OpenNote}
use Rattle.live_board.specs.declared.view.Part.{Part}
use Rattle.live_board.specs.declared.view.View.{View}
use Rattle.live_board.specs.Words.{cursor_at, move_word_at, header_word, status_word, cursor_of}
use Rattle.live_board.specs.Views.{next_of, starting, followed, kept_part, given_part, storing, published, finished, each_part, sees, finds, gains, only_at, noted, missing, closed_off, left_at, carrying, taking_in, spent}
use Rattle.live_board.specs.Shows.{Table, Shows}
use Rattle.live_board.specs.Rule.{IsEvent, IsSilent}
use Rattle.live_board.specs.KindViews.{Sitting}

-- ---- What all kinds use.

-- the seat has the number id
abbrev pub Sits : Table → ℕ → Sitting → Type 0
Sits s id me = get_elem? s.views id ≡ some me.0

-- what the step finds in the word
abbrev pub found : Table → ℕ → ℕ
found s word = slice_index s.words word

-- the table after the step: the word is now n, and the seat's view v
abbrev pub after : Table → ℕ → ℕ → ℕ → Sitting → View → Table
after s word n id me v = stepped s word n id me.1 v keeps

-- ---- The kinds.

-- 1. The table is made, with its words and the board's seat: the event open.
abbrev pub MakesTheTable : Type 0
MakesTheTable =
    (z : BoardSetup) → z.start < STARTS → AreBoardLimits z.limits
    → (words : List ℕ)
    → words ≡ header_word z.start z.limits.capacity ∷ replicate (z.limits.followers + z.limits.plies + 1) 0
    → Does z.limits None (Open z.start) (opened z.start) × Shows z (opened z.start) (opening words [] (starting z))

-- 2. The board stores a cursor that it notes as vacant as open at a place of the log that is at most a capacity back: a follow.
abbrev pub StoresAnOpenCursor : Type 0
StoresAnOpenCursor =
    (z : BoardSetup) (a : SharedBoard) (s : Table) (id : ℕ) (me : Sitting) → Shows z a s → Sits s id me → me.0.owns ≡ true
    → (k p : ℕ) → k < z.limits.followers → get_elem? me.0.notes k ≡ some Vacant → p ≤ length me.0.log
    → length me.0.log ≤ p + z.limits.capacity
    → IsEvent z a (Follow k p) (after s (cursor_at k) (cursor_of p None) id me (followed k p me.0))

-- 3. The board hands out the first part that it carries: silent.
abbrev pub SplitsOff : Type 0
SplitsOff =
    (z : BoardSetup) (a : SharedBoard) (s : Table) (id : ℕ) (v : View) → Shows z a s → get_elem? s.views id ≡ some v
    → IsSilent z a (record s { views = slice_set s.views id (kept_part v) ++ given_part v ∷ [] })

-- 3. Or it makes a seat that carries nothing: silent.
abbrev pub SplitsOffNothing : Type 0
SplitsOffNothing =
    (z : BoardSetup) (a : SharedBoard) (s : Table) (id : ℕ) (v : View) → Shows z a s → get_elem? s.views id ≡ some v
    → IsSilent z a (record s { views = slice_set s.views id v ++ carrying v.setup [] ∷ [] })

-- 4. The board stores a move in the word at the length: silent.
abbrev pub StoresAMove : Type 0
StoresAMove =
    (z : BoardSetup) (a : SharedBoard) (s : Table) (id : ℕ) (me : Sitting) → Shows z a s → Sits s id me → me.0.owns ≡ true
    → (m : Triple) → length me.0.log < z.limits.plies
    → IsSilent z a (after s (move_word_at z.limits (length me.0.log)) (move_code m) id me (storing m me.0))

-- 5. The board stores the status with a length one more and the outcome that the game then has, if the move stored is legal and
-- no note leaves room for a full follower: a submit.
abbrev pub StoresTheLength : Type 0
StoresTheLength =
    (z : BoardSetup) (a : SharedBoard) (s : Table) (id : ℕ) (me : Sitting) → Shows z a s → Sits s id me → me.0.owns ≡ true
    → (m : Triple) → me.0.stored ≡ Some m → me.0.outcome ≡ None → Legal (last_position z.start me.0.log) m
    → ((k joined least : ℕ) → get_elem? me.0.notes k ≡ some (OpenNote joined least)
    → length me.0.log < least + z.limits.capacity)
    → IsEvent z a (Submit m)
    (after s 1 (status_word (length me.0.log + 1) (own_outcome z.start (me.0.log ++ m ∷ []))) id me (published m me.0))

-- 5. Or it stores the status with the outcome that an ending with its ground names: an end.
abbrev pub StoresTheOutcome : Type 0
StoresTheOutcome =
    (z : BoardSetup) (a : SharedBoard) (s : Table) (id : ℕ) (me : Sitting) → Shows z a s → Sits s id me → me.0.owns ≡ true
    → (e : Ending) → me.0.outcome ≡ None → Ground z.start me.0.log e
    → IsEvent z a (End e)
    (after s 1 (status_word (length me.0.log) (Some (named_outcome e))) id me (finished (Some (named_outcome e)) me.0))

-- 6. A follower loads the status: silent.
abbrev pub LoadsTheStatus : Type 0
LoadsTheStatus =
    (z : BoardSetup) (a : SharedBoard) (s : Table) (id : ℕ) (me : Sitting) → Shows z a s → Sits s id me
    → IsSilent z a (after s 1 (found s 1) id me (each_part (sees (found s 1)) me.0))

-- 7. A follower loads the word of a move: silent. If the place lies below the log's length, the word is that move's.
abbrev pub LoadsAMove : Type 0
LoadsAMove =
    (z : BoardSetup) (a : SharedBoard) (s : Table) (id : ℕ) (me : Sitting) → Shows z a s → Sits s id me
    → (place : ℕ) → let word : ℕ = move_word_at z.limits place in let m : Triple = move_at a.log place in
    (place < length a.log → found s word ≡ move_code m)
    × IsSilent z a (after s word (found s word) id me (each_part (finds word m) me.0))

-- 8. A follower that holds its next move, and does not know that it stands at its closing, adds one to its cursor: a take.
abbrev pub AddsOne : Type 0
AddsOne =
    (z : BoardSetup) (a : SharedBoard) (s : Table) (id : ℕ) (me : Sitting) → Shows z a s → Sits s id me
    → (i : ℕ) (p : Part) (m : Triple) → get_elem? me.0.parts i ≡ some p → p.loaded ≡ Some m
    → ((c : ℕ) → p.closing ≡ Some c → next_of p < c)
    → let word : ℕ = cursor_at p.slot in
    IsEvent z a (Take p.slot)
    (after s word ((found s word + 1) % 2 ^ 64) id me (each_part (only_at word (gains (found s word))) me.0))

-- 9. The board loads a cursor: silent.
abbrev pub LoadsACursor : Type 0
LoadsACursor =
    (z : BoardSetup) (a : SharedBoard) (s : Table) (id : ℕ) (me : Sitting) → Shows z a s → Sits s id me
    → (k : ℕ) → k < z.limits.followers → let word : ℕ = cursor_at k in
    IsSilent z a (after s word (found s word) id me (noted word (found s word) me.0))

-- 10. The board exchanges the cursor of a follower that it notes as a capacity behind, if it is still open there, for a closed one:
-- a close. If it is another word by now, nothing changes, and the exchange is silent.
abbrev pub ClosesACursor : Type 0
ClosesACursor =
    (z : BoardSetup) (a : SharedBoard) (s : Table) (id : ℕ) (me : Sitting) → Shows z a s → Sits s id me → me.0.owns ≡ true
    → (k joined p : ℕ) → k < z.limits.followers → get_elem? me.0.notes k ≡ some (OpenNote joined p)
    → p + z.limits.capacity ≡ length me.0.log
    → let word : ℕ = cursor_at k in
    (found s word ≡ cursor_of p None
    → IsEvent z a (Close k) (after s word (cursor_of p (Some (length me.0.log))) id me (closed_off word me.0)))
    × (found s word ≢ cursor_of p None
    → IsSilent z a (after s word (found s word) id me (missing word (found s word) me.0)))

-- 11. A follower swaps its cursor for a vacant one: a leave.
abbrev pub SwapsOut : Type 0
SwapsOut =
    (z : BoardSetup) (a : SharedBoard) (s : Table) (id : ℕ) (me : Sitting) → Shows z a s → Sits s id me
    → (i : ℕ) (p : Part) → get_elem? me.0.parts i ≡ some p → let word : ℕ = cursor_at p.slot in
    IsEvent z a (Leave p.slot) (after s word 0 id me (left_at word (found s word) me.0))

-- 12. A seat takes in the parts of another seat, not the board's, which is spent: silent.
abbrev pub JoinsParts : Type 0
JoinsParts =
    (z : BoardSetup) (a : SharedBoard) (s : Table) (id : ℕ) (v : View) (other : ℕ) (w : View) → Shows z a s
    → get_elem? s.views id ≡ some v → ¬ (other ≡ id) → ¬ (w.owns ≡ true)
    → get_elem? (slice_set s.views id (taking_in v w)) other ≡ some w
    → IsSilent z a (record s { views = slice_set (slice_set s.views id (taking_in v w)) other spent })
