-- The effects of the steps on views.
use Rattle.std.specs.Prelude.{ℕ, ◌+◌, ◌==◌, nat_lt, if◌then◌else◌, true, false, List, [], ◌∷◌, ◌++◌, map, length, replicate, take, get_or, slice_index, slice_set, Option, Some, None}
use Rattle.std.specs.Option.{option_to_list}
use Rattle.c960_board.specs.Moves.{Triple}
use Rattle.c960_game.specs.declared.outcome.Outcome.{Outcome}
use Rattle.c960_game.specs.Ends.{own_outcome}
use Rattle.live_board.specs.declared.setup.BoardSetup.{BoardSetup}
use Rattle.live_board.specs.declared.note.Note.TheVariants.{Vacant, Open, Closed}
use Rattle.live_board.specs.declared.step.BoardStep.{BoardStep}
use Rattle.live_board.specs.declared.step.BoardStep.TheVariants.{CursorLoaded, CursorExchanged, CursorOpened, MoveStored, StatusStored}
use Rattle.live_board.specs.declared.view.Part.{Part}
use Rattle.live_board.specs.declared.view.View.{View}
use Rattle.live_board.specs.Words.{cursor_at, slot_of, length_in, outcome_in, closing_in, note_after, move_word_at}

-- ---- Parts.

-- the place of the move that the follower takes next
abbrev pub next_of : Part → ℕ
next_of p = p.joined + length p.taken

-- the word of that move
abbrev pub next_word : Part → ℕ
next_word p = move_word_at p.setup.limits (next_of p)

-- a new follower in a slot. It joins at a place of the log and has seen the board's length and outcome
abbrev pub newcomer : ℕ → ℕ → View → Part
newcomer slot joined v = record {
  setup = v.setup;
  slot = slot;
  joined = joined;
  before = take joined v.log;
  taken = [];
  seen = length v.log;
  outcome = v.outcome;
  loads = 0;
  loaded = None;
  closing = None;
}

-- has loaded this status
abbrev pub sees : ℕ → Part → Part
sees status p = record p { seen = length_in status; outcome = outcome_in status; loads = p.loads + 1 }

-- holds this move, or none
abbrev pub holding : Option Triple → Part → Part
holding found p = record p { loaded = found }

-- has loaded the word of a move, and holds the move if it is the next one and lies in the length seen
abbrev pub finds : ℕ → Triple → Part → Part
finds word m p =
    holding (if next_word p == word then (if nat_lt (next_of p) p.seen then Some m else p.loaded) else p.loaded) p

-- has taken the move that it held, and noticed what its cursor said
abbrev pub gains : ℕ → Part → Part
gains cursor p = record p { taken = p.taken ++ option_to_list p.loaded; loaded = None; closing = closing_in cursor }

-- has noticed what its cursor said
abbrev pub learns : ℕ → Part → Part
learns cursor p = record p { closing = closing_in cursor }

-- changes the part whose cursor is this word in this way, and none of the others
abbrev pub only_at : ℕ → (Part → Part) → Part → Part
only_at word change p = if cursor_at p.slot == word then change p else p

-- the parts of cursors other than this word
abbrev pub without : ℕ → List Part → List Part
without word [] = []
without word (p ∷ ps) = if cursor_at p.slot == word then without word ps else p ∷ without word ps

-- the parts of this cursor
abbrev pub those_at : ℕ → List Part → List Part
those_at word [] = []
those_at word (p ∷ ps) = if cursor_at p.slot == word then p ∷ those_at word ps else those_at word ps

abbrev pub first_of : List Part → List Part
first_of [] = []
first_of (p ∷ ps) = p ∷ []

abbrev pub others : List Part → List Part
others [] = []
others (p ∷ ps) = ps

-- ---- The board's view.

-- the view, with one more step that the board made
abbrev pub making : BoardStep → View → View
making step v = record v { made = v.made ++ step ∷ [] }

-- 1: the board's view when the table is made
abbrev pub starting : BoardSetup → View
starting setup = record {
  owns = true;
  setup = setup;
  log = [];
  outcome = None;
  stored = None;
  notes = replicate setup.limits.followers Vacant;
  checks = replicate setup.limits.followers 0;
  closings = [];
  made = [];
  parts = [];
  gone = [];
}

-- 2: a follower has joined in a slot, from a place of the log
abbrev pub followed : ℕ → ℕ → View → View
followed slot joined v = making (CursorOpened slot) (record v {
  notes = slice_set v.notes slot (Open joined joined);
  parts = newcomer slot joined v ∷ v.parts;
})

-- 3: the board without the part that it hands out, and the seat that receives it
abbrev pub kept_part : View → View
kept_part v = record v { parts = others v.parts }

abbrev pub carrying : BoardSetup → List Part → View
carrying setup parts = record {
  owns = false;
  setup = setup;
  log = [];
  outcome = None;
  stored = None;
  notes = [];
  checks = [];
  closings = [];
  made = [];
  parts = parts;
  gone = [];
}

abbrev pub given_part : View → View
given_part v = carrying v.setup (first_of v.parts)

-- 3: or the board as it is, and a seat that carries nothing
abbrev pub same : View → View
same v = v

abbrev pub bare : View → View
bare v = carrying v.setup []

-- 4: a move is stored, and not yet published
abbrev pub storing : Triple → View → View
storing m v = making MoveStored (record v { stored = Some m })

-- 5: it is published
abbrev pub published : Triple → View → View
published m v = making StatusStored (record v {
  log = v.log ++ m ∷ [];
  outcome = own_outcome v.setup.start (v.log ++ m ∷ []);
  stored = None;
})

-- 5: the game has this outcome
abbrev pub finished : Option Outcome → View → View
finished outcome v = making StatusStored (record v { outcome = outcome })

-- 6, 7 and 8: each part that the seat carries changes in this way
abbrev pub each_part : (Part → Part) → View → View
each_part change v = record v { parts = map change v.parts }

-- a cursor was loaded: it is noted, and one more load is counted
abbrev pub told_by_cursor : ℕ → ℕ → View → View
told_by_cursor word cursor v = record v {
  notes = slice_set v.notes (slot_of word) (note_after (get_or v.notes (slot_of word) Vacant) cursor);
  checks = slice_set v.checks (slot_of word) (slice_index v.checks (slot_of word) + 1);
  parts = map (only_at word (learns cursor)) v.parts;
}

-- 9: the cursor was loaded
abbrev pub noted : ℕ → ℕ → View → View
noted word cursor v = making (CursorLoaded (slot_of word)) (told_by_cursor word cursor v)

-- 10: the exchange found another word there
abbrev pub missing : ℕ → ℕ → View → View
missing word cursor v = making (CursorExchanged (slot_of word)) (told_by_cursor word cursor v)

-- 10: the follower at the cursor is closed
abbrev pub closed_off : ℕ → View → View
closed_off word v = making (CursorExchanged (slot_of word)) (record v {
  notes = slice_set v.notes (slot_of word) (Closed (length v.log));
  closings = v.closings ++ slot_of word ∷ [];
})

-- 11: the follower at the cursor, which said this, has left
abbrev pub left_at : ℕ → ℕ → View → View
left_at word cursor v = record v {
  notes = slice_set v.notes (slot_of word) Vacant;
  parts = without word v.parts;
  gone = v.gone ++ map (learns cursor) (those_at word v.parts);
}

-- 12: a seat has taken in the parts of another, and that one is spent
abbrev pub taking_in : View → View → View
taking_in v other = record v { parts = other.parts ++ v.parts }

abbrev pub nothing : BoardSetup
nothing = record { start = 0; limits = record { followers = 0; capacity = 0; plies = 0 } }

abbrev pub spent : View
spent = carrying nothing []
