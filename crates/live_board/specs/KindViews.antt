-- What each kind of step shows to the seat that makes it: the seat's new view, from the old one and what was found, and how the number
-- found relates to the old view. `told` is what every step shows.
use Rattle.std.specs.Prelude.{◌≡◌, ◌≢◌, ℕ, ◌+◌, ◌<◌, ◌≤◌, ◌⊎◌, true, length, Some}
use mathlib.Core.Option.{some}
use lib.ListN.{get_elem?}
use Rattle.atomic_table.specs.Table.{Me, Step}
use Rattle.c960_board.specs.Moves.{Triple, IsMove}
use Rattle.c960_board.specs.MoveTexts.{move_code}
use Rattle.c960_game.specs.declared.outcome.Outcome.{Outcome}
use Rattle.live_board.specs.SharedBoard.{move_at}
use Rattle.live_board.specs.declared.note.Note.{Note}
use Rattle.live_board.specs.declared.note.Note.TheVariants.{Open}
use Rattle.live_board.specs.declared.view.Part.{Part}
use Rattle.live_board.specs.declared.view.View.{View}
use Rattle.live_board.specs.Words.{cursor_at, slot_of, length_in, outcome_in, closing_in, place_in, note_after}
use Rattle.live_board.specs.Views.{next_of, next_word, followed, storing, published, finished, each_part, sees, finds, gains, learns, only_at, noted, missing, closed_off, left_at}
use Rattle.live_board.specs.Sound.{IsSound, IsSoundPart, Follows}

-- a seat: its view, and what the kit's table may also give a seat, which is nothing
abbrev pub Sitting : Type 0
Sitting = Me (Unit {0}) View

abbrev pub Made : Type 0
Made = Step (Unit {0})

-- the seat keeps what it has besides its view, and its view is sound
abbrev pub Told : Sitting → Sitting → Type 0
Told m m' = (m'.1 ≡ m.1) × IsSound m'.0

abbrev pub follows : Made → Sitting → ℕ → Sitting → Type 0
follows st m r m' = Told m m' × (m'.0 ≡ followed (slot_of st.word) (place_in st.first) m.0)

abbrev pub stores : Made → Sitting → ℕ → Sitting → Type 0
stores st m r m' = Told m m' × ((x : Triple) → IsMove x → st.first ≡ move_code x → m'.0 ≡ storing x m.0)

abbrev pub publishes : Made → Sitting → ℕ → Sitting → Type 0
publishes st m r m' = Told m m' × ((x : Triple) → m.0.stored ≡ Some x → m'.0 ≡ published x m.0)

abbrev pub finishes : Made → Sitting → ℕ → Sitting → Type 0
finishes st m r m' = Told m m' × (m'.0 ≡ finished (outcome_in st.first) m.0)

-- the length found is not below what a part has seen or knows as its closing; an outcome that it has seen is the one found; the
-- board finds its own length and outcome
abbrev pub looks : Made → Sitting → ℕ → Sitting → Type 0
looks st m r m' = Told m m' × (m'.0 ≡ each_part (sees r) m.0)
    × ((i : ℕ) (p : Part) → get_elem? m.0.parts i ≡ some p → (p.seen ≤ length_in r)
    × ((c : ℕ) → p.closing ≡ Some c → c ≤ length_in r)
    × ((o : Outcome) → p.outcome ≡ Some o → outcome_in r ≡ Some o))
    × (m.0.owns ≡ true → (length_in r ≡ length m.0.log) × (outcome_in r ≡ m.0.outcome))

-- if a part waits for this word, the word is the code of a move
abbrev pub reads : Made → Sitting → ℕ → Sitting → Type 0
reads st m r m' =
    Told m m' × ((i : ℕ) (p : Part) → get_elem? m.0.parts i ≡ some p → next_word p ≡ st.word → next_of p < p.seen
    → (x : Triple) × IsMove x × (r ≡ move_code x) × (m'.0 ≡ each_part (finds st.word x) m.0)
    × (m.0.owns ≡ true → x ≡ move_at m.0.log (next_of p)))

-- a closing that the part of this cursor knows is the one found
abbrev pub ShowsClosing : Made → Sitting → ℕ → Type 0
ShowsClosing st m r = (i : ℕ) (p : Part) → get_elem? m.0.parts i ≡ some p → cursor_at p.slot ≡ st.word → (c : ℕ)
    → p.closing ≡ Some c → closing_in r ≡ Some c

abbrev pub takes : Made → Sitting → ℕ → Sitting → Type 0
takes st m r m' = Told m m' × (m'.0 ≡ each_part (only_at st.word (gains r)) m.0) × ShowsClosing st m r

-- the note follows from the old one, and an open follower is at most a capacity behind
abbrev pub Noted : Made → Sitting → ℕ → Type 0
Noted st m r = m.0.owns ≡ true → (n : Note) → get_elem? m.0.notes (slot_of st.word) ≡ some n
    → Follows n (note_after n r) × ((joined least : ℕ) → note_after n r ≡ Open joined least
    → length m.0.log ≤ least + m.0.setup.limits.capacity)

abbrev pub checks : Made → Sitting → ℕ → Sitting → Type 0
checks st m r m' = Told m m' × (m'.0 ≡ noted st.word r m.0) × Noted st m r × ShowsClosing st m r

-- if the exchange fails, the follower has left or taken a move
abbrev pub closes : Made → Sitting → ℕ → Sitting → Type 0
closes st m r m' = Told m m' × (r ≡ st.first → m'.0 ≡ closed_off st.word m.0)
    × (r ≢ st.first → (m'.0 ≡ missing st.word r m.0) × Noted st m r × ((r ≡ 0) ⊎ (st.first < r)))

-- the part that leaves learns its closing, as one that stays would
abbrev pub leaves : Made → Sitting → ℕ → Sitting → Type 0
leaves st m r m' = Told m m' × (m'.0 ≡ left_at st.word r m.0)
    × ((i : ℕ) (p : Part) → get_elem? m.0.parts i ≡ some p → cursor_at p.slot ≡ st.word → IsSoundPart (learns r p))
    × ShowsClosing st m r
