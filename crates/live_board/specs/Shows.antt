-- When the words of a table and the views of its seats show a shared board. This holds between any two atomic steps.
use Rattle.std.specs.Prelude.{◌≡◌, ℕ, ◌+◌, ◌<◌, ◌≤◌, ◌==◌, if◌then◌else◌, true, List, [], ◌∷◌, length, take, slice_index, Option, Some, None, IfSome}
use mathlib.Core.Option.{some}
use lib.ListN.{get_elem?}
use Rattle.atomic_table.specs.Table.{State}
use Rattle.c960_board.specs.MoveTexts.{move_code}
use Rattle.c960_game.specs.declared.outcome.Outcome.{Outcome}
use Rattle.live_board.specs.Limits.{AreBoardLimits}
use Rattle.live_board.specs.SharedBoard.{SharedFollower, SharedBoard, next, move_at}
use Rattle.live_board.specs.Laws.{IsShared}
use Rattle.live_board.specs.declared.setup.BoardSetup.{BoardSetup}
use Rattle.live_board.specs.declared.note.Note.{Note}
use Rattle.live_board.specs.declared.note.Note.TheVariants.{Vacant, Open, Closed}
use Rattle.live_board.specs.declared.view.Part.{Part}
use Rattle.live_board.specs.declared.view.View.{View}
use Rattle.live_board.specs.Words.{cursor_at, move_word_at, word_count, header_word, status_word, cursor_word}
use Rattle.live_board.specs.Views.{next_of}

-- the words and the views: a live board's table has nothing else for the kit to give to its seats
abbrev pub Table : Type 0
Table = State (Unit {0}) View

-- ---- How many parts a slot has.

abbrev pub total : {A : Type 0} → (A → ℕ) → List A → ℕ
total f [] = 0
total f (x ∷ xs) = f x + total f xs

abbrev pub is_at : ℕ → Part → ℕ
is_at k p = if p.slot == k then 1 else 0

-- the parts of the slot k, over all seats
abbrev pub parts_at : ℕ → List View → ℕ
parts_at k views = total (λ v. total (is_at k) v.parts) views

abbrev pub one_if : Option SharedFollower → ℕ
one_if None = 0
one_if (Some f) = 1

-- ---- A follower's part.

-- the follower that the part shows, with its closing
abbrev pub follower_of : Part → Option ℕ → SharedFollower
follower_of p closing = record { joined = p.joined; taken = p.taken; closing = closing }

-- Joining place and list are the follower's; the closing stands in the cursor's word, and the part may have noticed it.
pub record ShowsPart (z : BoardSetup) (a : SharedBoard) (p : Part) : Type 0 where
  pub inside : p.slot < z.limits.followers
  pub setup_is : p.setup ≡ z
  pub closing : Option ℕ
  pub has : a.followers p.slot ≡ Some (follower_of p closing)
  -- the moves before its joining place are the log's
  pub before : p.before ≡ take p.joined a.log
  -- a part that has noticed its closing knows it; one that has not stands a capacity before it
  pub noticed : (c : ℕ) → p.closing ≡ Some c → closing ≡ Some c
  pub unnoticed : (c : ℕ) → p.closing ≡ None → closing ≡ Some c → c ≡ next_of p + z.limits.capacity
  -- the length seen is at least the next place and at most the log's; an outcome seen is the outcome, and the length seen is then the log's
  pub seen : (next_of p ≤ p.seen) × (p.seen ≤ length a.log)
  pub over : (o : Outcome) → p.outcome ≡ Some o → (a.outcome ≡ Some o) × (p.seen ≡ length a.log)
  -- a move that it notes as loaded is the next one
  pub loaded : IfSome p.loaded (λ m. (next_of p < p.seen) × (m ≡ move_at a.log (next_of p)))

-- ---- The board's view.

-- What is noted as vacant is vacant. The other notes hold unless the follower has left.
abbrev pub IsTrueNote : Note → Option SharedFollower → Type 0
IsTrueNote Vacant o = o ≡ None
IsTrueNote (Open joined least) o = IfSome o (λ f. (f.joined ≡ joined) × (f.closing ≡ None) × (least ≤ next f))
IsTrueNote (Closed c) o = IfSome o (λ f. f.closing ≡ Some c)

pub record ShowsBoard (z : BoardSetup) (a : SharedBoard) (words : List ℕ) (v : View) : Type 0 where
  pub setup_is : v.setup ≡ z
  pub log_is : v.log ≡ a.log
  pub outcome_is : v.outcome ≡ a.outcome
  -- a move that the board notes as stored and not yet published is in the word at the length
  pub stored : IfSome v.stored (λ m. (length a.log < z.limits.plies)
      × (slice_index words (move_word_at z.limits (length a.log)) ≡ move_code m))
  pub noted : length v.notes ≡ z.limits.followers
  pub checked : length v.checks ≡ z.limits.followers
  pub notes : (k : ℕ) (n : Note) → get_elem? v.notes k ≡ some n → IsTrueNote n (a.followers k)

-- ---- The whole table. Seat 0 is the board's.

-- the view of seat 0 is the board's
abbrev pub HasOwner : List View → Type 0
HasOwner views = (v : View) × (get_elem? views 0 ≡ some v) × (v.owns ≡ true)

pub record Shows (z : BoardSetup) (a : SharedBoard) (s : Table) : Type 0 where
  pub limits : AreBoardLimits z.limits
  pub start_is : a.start ≡ z.start
  -- the log is a legal game with its outcome, and each follower meets the laws of shared boards
  pub shared : IsShared z.limits a
  -- the words
  pub count : length s.words ≡ word_count z.limits
  pub header : slice_index s.words 0 ≡ header_word a.start z.limits.capacity
  pub status : slice_index s.words 1 ≡ status_word (length a.log) a.outcome
  pub cursors : (k : ℕ) → k < z.limits.followers → slice_index s.words (cursor_at k) ≡ cursor_word (a.followers k)
  pub moves : (place : ℕ) → place < length a.log
      → slice_index s.words (move_word_at z.limits place) ≡ move_code (move_at a.log place)
  -- the views: seat 0 has the board's, no other seat has it, and each shows what it knows
  pub owner : HasOwner s.views
  pub board : (j : ℕ) (v : View) → get_elem? s.views j ≡ some v → v.owns ≡ true → (j ≡ 0) × ShowsBoard z a s.words v
  pub parts : (j : ℕ) (v : View) → get_elem? s.views j ≡ some v → (i : ℕ) (p : Part) → get_elem? v.parts i ≡ some p
      → ShowsPart z a p
  -- each cursor that is not vacant has exactly one part, and a vacant one has none
  pub one_part : (k : ℕ) → k < z.limits.followers → parts_at k s.views ≡ one_if (a.followers k)
