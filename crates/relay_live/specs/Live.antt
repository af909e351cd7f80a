-- What a live relay keeps, and what its contracts see of it.
use Rattle.std.specs.Prelude.{ℕ, ◌≡◌, ◌≢◌, ◌≤◌, ◌+◌, count_by, List, length, map, position, true, Option, Some, None}
use Rattle.std.specs.HashMap.{spare}
use Rattle.std.specs.Map.{keys_of, lookup, set_value}
use lib.ListN.{get_elem?}
use mathlib.Core.Option.{some}
use Rattle.c960_game.specs.Limits.{LimitNumbers}
use Rattle.c960_game.specs.GameRecord.{GameRecord}
use Rattle.relay_core.specs.Held.{HeldFollower, Held, plain}
use Rattle.relay_core.specs.Held.Stands.{IsKept}
use Rattle.relay_core.specs.Held.Room.{Holding}
use Rattle.relay_core.specs.Name.{same_name}
use Rattle.relay_core.specs.State.{RelayRecord}
use Rattle.live_board.specs.declared.note.Note.{Note}
use Rattle.live_board.specs.declared.note.Note.TheVariants.{Vacant, Open, Closed}
use Rattle.live_board.specs.declared.view.Part.{Part}
use Rattle.live_board.specs.declared.view.View.{View}
use Rattle.live_board.specs.Shows.{total}
use Rattle.live_board.specs.Sound.{IsSound}
use Rattle.live_board.specs.Views.{spent}
use Rattle.live_board.specs.Board.{game_of, setup_of}
use Rattle.live_board.specs.Carried.{Carries, closing_at, due_at}
use Rattle.live_board.specs.Seats.{BoardSeat}
use Rattle.relay_live.specs.declared.holdings.Holdings.TheInside.{Inside}
use Rattle.relay_live.specs.declared.seated.Seated.{Seated}

abbrev pub Boards : Type 0
Boards = List (List ℕ × BoardSeat)

-- ---- What the record shows.

-- a follower with its queue: its entry has where it joined and how much it took, and everything else is read off the board's view
abbrev pub held_in : ℕ → View → Seated → HeldFollower
held_in capacity v f = record {
  board = f.board;
  joined = f.joined;
  taken = f.taken;
  cut = closing_at v f.slot;
  queue = due_at v f.slot (f.joined + f.taken);
  capacity = capacity;
}

abbrev pub view_in : Option BoardSeat → View
view_in None = spent
view_in (Some b) = b.knows

abbrev pub held_at : ℕ → Boards → Seated → HeldFollower
held_at capacity boards f = held_in capacity (view_in (lookup (same_name f.board) boards)) f

-- the game that a board shows
abbrev pub game : BoardSeat → GameRecord
game b = game_of b.knows

abbrev pub games : Boards → List (List ℕ × GameRecord)
games boards = map (λ e. (e.0, game e.1)) boards

abbrev pub holders : ℕ → Boards → List (ℕ × Seated) → List (ℕ × HeldFollower)
holders capacity boards fs = map (λ e. (e.0, held_at capacity boards e.1)) fs

abbrev pub held_by : LimitNumbers → Boards → List (ℕ × Seated) → Held
held_by limits boards fs =
    record { limits = limits; boards = games boards; followers = holders limits.capacity boards fs }

abbrev pub held_of : Inside → Held
held_of a = held_by a.limits a.boards.entries a.followers.entries

abbrev pub holding_of : Inside → Holding
holding_of a = record {
  shown = plain (held_of a);
  room = record { boards = spare a.boards; followers = a.followers.room };
}

-- ---- What is kept.

-- the board exists, stands at its index, and carries the follower's part
pub record IsSeated (boards : Boards) (f : Seated) : Type 0 where
  pub board : BoardSeat
  pub there : lookup (same_name f.board) boards ≡ Some board
  pub at : position (same_name f.board) (keys_of boards) ≡ Some f.index
  pub index : ℕ
  pub part : Part
  pub carried : get_elem? board.knows.parts index ≡ some part
  pub slot_is : part.slot ≡ f.slot
  pub joined_is : part.joined ≡ f.joined
  pub taken_is : length part.taken ≡ f.taken

abbrev pub vacancy : Note → ℕ
vacancy Vacant = 1
vacancy (Open joined least) = 0
vacancy (Closed c) = 0

-- as many slots of the board of this name are noted vacant as the relay's followers leave
abbrev pub SlotsLeft : RelayRecord → List ℕ → BoardSeat → Type 0
SlotsLeft r name b =
    count_by (λ e. same_name name e.1.board) r.followers + total vacancy b.knows.notes ≡ r.limits.followers

pub record IsLive (limits : LimitNumbers) (boards : Boards) (fs : List (ℕ × Seated)) : Type 0 where
  -- a history leads to the record
  pub kept : IsKept (held_by limits boards fs)
  -- each board has the relay's limits, is the owner of its table, and knows what is sound
  pub setups : (q : List ℕ) (b : BoardSeat) → lookup (same_name q) boards ≡ Some b
      → b.knows.setup ≡ setup_of b.knows.setup.start limits
  pub owns : (q : List ℕ) (b : BoardSeat) → lookup (same_name q) boards ≡ Some b → b.knows.owns ≡ true
  pub sound : (q : List ℕ) (b : BoardSeat) → lookup (same_name q) boards ≡ Some b → IsSound b.knows
  -- each follower sits at its board, no two in one slot
  pub seated : (i : ℕ) (e : ℕ × Seated) → get_elem? fs i ≡ some e → IsSeated boards e.1
  pub apart : (i j : ℕ) (e d : ℕ × Seated) → get_elem? fs i ≡ some e → get_elem? fs j ≡ some d → e.1.board ≡ d.1.board
      → e.1.slot ≡ d.1.slot → i ≡ j
  -- a slot that is not noted vacant has a part here, and as many slots are noted vacant as the followers leave
  pub carried : (q : List ℕ) (b : BoardSeat) → lookup (same_name q) boards ≡ Some b → (k : ℕ) (n : Note)
      → get_elem? b.knows.notes k ≡ some n → n ≢ Vacant → Carries b.knows k
  pub counted : (q : List ℕ) (b : BoardSeat) → lookup (same_name q) boards ≡ Some b
      → count_by (λ e. same_name q e.1.board) fs + total vacancy b.knows.notes ≡ limits.followers

-- as many boards as the limits allow fit without memory
abbrev pub HasRoom : Inside → Type 0
HasRoom a = a.limits.boards ≤ length a.boards.entries + spare a.boards

-- ---- What a step changes.

-- one board has changed
abbrev pub Swapped : (BoardSeat → BoardSeat → Type 0) → List ℕ → Boards → Boards → Type 0
Swapped R name old new = (b : BoardSeat) × (c : BoardSeat) × (lookup (same_name name) old ≡ Some b) × R b c
    × (new ≡ set_value (same_name name) old c)

abbrev pub with_one_more : Seated → Seated
with_one_more f = record { board = f.board; index = f.index; slot = f.slot; joined = f.joined; taken = f.taken + 1 }
