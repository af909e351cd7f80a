-- What the steps of a board do to its view, several at a time.
use Rattle.std.specs.Prelude.{◌≡◌, ℕ, zero, suc, ◌+◌, ◌<◌, ◌≤◌, ◌⊎◌, length, slice_index, None}
use mathlib.Core.Option.{some}
use lib.ListN.{get_elem?}
use Rattle.c960_board.specs.Moves.{Triple}
use Rattle.live_board.specs.declared.note.Note.{Note}
use Rattle.live_board.specs.declared.note.Note.TheVariants.{Vacant, Open}
use Rattle.live_board.specs.declared.view.View.{View}
use Rattle.live_board.specs.Words.{cursor_at, cursor_of, note_after}
use Rattle.live_board.specs.Views.{noted, missing, closed_off, followed, kept_part, storing, published}
use Rattle.live_board.specs.Sound.{Follows}
use Rattle.live_board.specs.Seats.{NoneVacantBefore}

-- ---- A cursor is loaded.

-- the new note of the cursor k follows from the old one, and an open follower is at most a capacity behind
abbrev pub NotedAs : View → ℕ → ℕ → Type 0
NotedAs v k r = (n : Note) → get_elem? v.notes k ≡ some n
    → Follows n (note_after n r) × ((joined least : ℕ) → note_after n r ≡ Open joined least
    → length v.log ≤ least + v.setup.limits.capacity)

-- the cursor k was loaded, and said r
abbrev pub Checked : View → ℕ → View → Type 0
Checked v k w = (r : ℕ) × (w ≡ noted (cursor_at k) r v) × NotedAs v k r

-- ---- A follower is closed.

-- the follower at the cursor k is noted as open and a capacity behind
abbrev pub IsNotedFull : View → ℕ → ℕ → Type 0
IsNotedFull v k place =
    (joined : ℕ) × (get_elem? v.notes k ≡ some (Open joined place)) × (place + v.setup.limits.capacity ≡ length v.log)

-- The exchange found the cursor k open at the place, and closed it; or it found another word, because the follower had left or taken.
abbrev pub Exchanged : View → ℕ → ℕ → View → Type 0
Exchanged v k place w =
    (w ≡ closed_off (cursor_at k) v)
    ⊎ ((r : ℕ) × (w ≡ missing (cursor_at k) r v) × NotedAs v k r × ((r ≡ 0) ⊎ (cursor_of place None < r)))

-- according to its note, the follower at the cursor k may be a capacity behind
abbrev pub MayBeFull : View → ℕ → Type 0
MayBeFull v k = (joined least : ℕ) × (get_elem? v.notes k ≡ some (Open joined least))
    × (least + v.setup.limits.capacity ≤ length v.log)

-- The cursor k was loaded. If it was then open and a capacity behind, an exchange was tried, once.
abbrev pub Asked : View → ℕ → View → Type 0
Asked v k w = (u : View) × Checked v k u
    × (((place : ℕ) × IsNotedFull u k place × Exchanged u k place w)
    ⊎ ((w ≡ u) × ((place : ℕ) → ¬ (IsNotedFull u k place))))

-- The follower at the cursor k was asked if it may be full; otherwise nothing was done.
abbrev pub Tried : View → ℕ → View → Type 0
Tried v k w = (MayBeFull v k × Asked v k w) ⊎ ((MayBeFull v k → ⊥) × (w ≡ v))

-- this was done for the first n cursors, in order
abbrev pub TriedBelow : ℕ → View → View → Type 0
TriedBelow zero v w = w ≡ v
TriedBelow (suc n) v w = (u : View) × TriedBelow n v u × Tried u n w

-- A submit: each follower that may be full is asked, in the order of the cursors, then the move is stored, then published. Only an exchange
-- that closes a follower adds to the closings that the view lists (`closed_off`); each step is one more of those that it lists as made, so
-- that they were made in this order (`Order`).
abbrev pub Submitted : Triple → View → View → Type 0
Submitted m v w = (u : View) × TriedBelow v.setup.limits.followers v u × (w ≡ published m (storing m u))

-- no follower is noted as open and a capacity behind, at the first n cursors
abbrev pub FreeBelow : ℕ → View → Type 0
FreeBelow n v = (k joined least : ℕ) → k < n → get_elem? v.notes k ≡ some (Open joined least)
    → length v.log < least + v.setup.limits.capacity

-- ---- Slots are looked for.

-- no slot is noted vacant
abbrev pub NoneVacant : View → Type 0
NoneVacant v = (k : ℕ) → get_elem? v.notes k ≡ some Vacant → ⊥

-- none of the first n slots is noted vacant
abbrev pub NoneVacantBelow : ℕ → View → Type 0
NoneVacantBelow n v = NoneVacantBefore n v.notes

-- the first n cursors were loaded, each once, and nothing else was done
abbrev pub CheckedBelow : ℕ → View → View → Type 0
CheckedBelow zero v w = w ≡ v
CheckedBelow (suc n) v w = (u : View) × CheckedBelow n v u × Checked u n w

-- the counts of loads of the first n cursors rose
abbrev pub LoadedBelow : ℕ → View → View → Type 0
LoadedBelow n v w = (k : ℕ) → k < n → slice_index v.checks k < slice_index w.checks k

-- a slot was looked for: no cursor was loaded, or each was, and nothing else was done
abbrev pub Searched : View → View → Type 0
Searched v w = (w ≡ v) ⊎ CheckedBelow v.setup.limits.followers v w

-- what loads leave unchanged in a board's view
pub record Unmoved (v w : View) : Type 0 where
  pub setup : w.setup ≡ v.setup
  pub log : w.log ≡ v.log
  pub outcome : w.outcome ≡ v.outcome
  pub closings : w.closings ≡ v.closings

-- A follower has joined at the cursor k, from the place p of the log. A slot was looked for. The cursor, which was then noted vacant,
-- was stored as open, and the new part was handed out.
abbrev pub Joined : ℕ → ℕ → View → View → Type 0
Joined k p v w = (u : View) × Searched v u × (get_elem? u.notes k ≡ some Vacant) × (w ≡ kept_part (followed k p u))
