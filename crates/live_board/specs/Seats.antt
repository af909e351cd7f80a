-- What contracts see of a board and of a follower, and how the fields of each relate to the view of its seat.
use Rattle.std.specs.Prelude.{◌≡◌, ℕ, ◌+◌, ◌<◌, ◌≤◌, ◌==◌, if◌then◌else◌, min, List, [], ◌∷◌, length, Option, None, true}
use Rattle.atomic_table.specs.Seated.{TableId}
use Rattle.atomic_table.specs.declared.shared.Seat.{Seat}
use Rattle.c960_game.specs.declared.outcome.Outcome.{Outcome}
use Rattle.live_board.specs.declared.setup.BoardSetup.{BoardSetup}
use mathlib.Core.Option.{some}
use lib.ListN.{get_elem?}
use Rattle.live_board.specs.declared.note.Note.{Note}
use Rattle.live_board.specs.declared.note.Note.TheVariants.{Vacant, Open, Closed}
use Rattle.live_board.specs.declared.view.Part.{Part}
use Rattle.live_board.specs.declared.view.View.{View}
use Rattle.live_board.specs.Words.{word_count}
use Rattle.live_board.specs.Views.{carrying}
use Rattle.live_board.specs.Sound.{IsSoundPart, IsSound}

-- a table, and what a seat at it knows: a board's, or one of a follower that left
pub record BoardSeat : Type 0 where
  pub table : TableId
  pub knows : View

-- a follower's table, and what it knows: its part
pub record FollowerSeat : Type 0 where
  pub table : TableId
  pub part : Part

-- a placeholder for no part
abbrev nobody : BoardSetup → Part
nobody setup = record {
  setup = setup;
  slot = 0;
  joined = 0;
  before = [];
  taken = [];
  seen = 0;
  outcome = None;
  loads = 0;
  loaded = None;
  closing = None;
}

abbrev first_part : Part → List Part → Part
first_part d [] = d
first_part d (p ∷ ps) = p

-- the part that a follower's view is
abbrev pub part_of : View → Part
part_of v = first_part (nobody v.setup) v.parts

-- no open follower is noted at a place before this one
abbrev pub NoneBefore : ℕ → List Note → Type 0
NoneBefore least notes = (k joined next : ℕ) → get_elem? notes k ≡ some (Open joined next) → least ≤ next

-- no slot before this one is noted vacant
abbrev pub NoneVacantBefore : ℕ → List Note → Type 0
NoneVacantBefore vacant notes = (k : ℕ) → k < vacant → get_elem? notes k ≡ some Vacant → ⊥

-- such a slot, once another note than Vacant is made of a slot
abbrev pub past : ℕ → ℕ → ℕ
past vacant slot = if slot == vacant then vacant + 1 else vacant

-- and once this note is
abbrev pub least_vacant_with : ℕ → ℕ → Note → ℕ
least_vacant_with vacant slot Vacant = min vacant slot
least_vacant_with vacant slot (Open joined next) = past vacant slot
least_vacant_with vacant slot (Closed c) = past vacant slot

-- Of a board: the table's identity and key, the seat, and the fields besides. After the opening and after each call the notes have room
-- for each follower, and for no more. This says nothing about memory that a call allocates and frees itself.
pub record IsTableWriter (id : TableId) (key : BoardSetup) (seat : Seat (Unit {0}) View) (setup : BoardSetup) (len least vacant : ℕ)
    (notes : List Note) (room : ℕ) : Type 0 where
  pub table : seat.table_id ≡ id
  pub words : id.words ≡ word_count setup.limits
  pub key_is : key ≡ setup
  pub owns : seat.me.0.owns ≡ true
  pub setup_is : seat.me.0.setup ≡ setup
  pub len_is : len ≡ length seat.me.0.log
  pub notes_are : notes ≡ seat.me.0.notes
  pub least_is : NoneBefore least notes
  pub least_low : least ≤ len
  pub vacant_is : NoneVacantBefore vacant notes
  pub room_is : room ≡ setup.limits.followers
  pub none_held : seat.me.1 ≡ []
  pub sound : IsSound seat.me.0

-- of a follower, likewise
pub record IsFollower (id : TableId) (key : BoardSetup) (seat : Seat (Unit {0}) View) (setup : BoardSetup)
    (slot joined taken seen : ℕ) (outcome : Option Outcome) (closing : Option ℕ) : Type 0 where
  pub table : seat.table_id ≡ id
  pub words : id.words ≡ word_count setup.limits
  pub key_is : key ≡ setup
  pub one : seat.me.0 ≡ carrying setup (part_of seat.me.0 ∷ [])
  pub none_held : seat.me.1 ≡ []
  pub setup_is : (part_of seat.me.0).setup ≡ setup
  pub slot_is : slot ≡ (part_of seat.me.0).slot
  pub joined_is : joined ≡ (part_of seat.me.0).joined
  pub taken_is : taken ≡ length (part_of seat.me.0).taken
  pub seen_is : seen ≡ (part_of seat.me.0).seen
  pub outcome_is : outcome ≡ (part_of seat.me.0).outcome
  pub closing_is : closing ≡ (part_of seat.me.0).closing
  pub sound : IsSoundPart (part_of seat.me.0)
