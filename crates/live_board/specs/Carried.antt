-- What a board does at its own seat for a follower whose part it carries.
use Rattle.std.specs.Prelude.{◌≡◌, ℕ, ◌+◌, ◌==◌, if◌then◌else◌, List, [], ◌∷◌, ◌++◌, map, length, drop, take, unwrap_or, Option, None}
use mathlib.Core.Option.{Option as Maybe, none, some}
use lib.ListN.{get_elem?}
use Rattle.c960_board.specs.Moves.{Triple}
use Rattle.relay_core.specs.declared.reply.Taken.{Taken}
use Rattle.relay_core.specs.declared.reply.Taken.TheVariants.{Move, Nothing, Over, Cut}
use Rattle.live_board.specs.declared.note.Note.{Note}
use Rattle.live_board.specs.declared.view.Part.{Part}
use Rattle.live_board.specs.declared.view.View.{View}
use Rattle.live_board.specs.Views.{next_of}
use Rattle.live_board.specs.Meeting.{closing_noted}

-- ---- What the board's view says of a slot.

abbrev pub closing_found : Maybe Note → Option ℕ
closing_found none = None
closing_found (some n) = closing_noted n

-- the length at which the follower in the slot was closed
abbrev pub closing_at : View → ℕ → Option ℕ
closing_at v slot = closing_found (get_elem? v.notes slot)

-- the moves that the follower in the slot still gets, if its next move is the one at the place `next` of the log
abbrev pub due_at : View → ℕ → ℕ → List Triple
due_at v slot next = drop next (take (unwrap_or (closing_at v slot) (length v.log)) v.log)

-- the board carries the part of a follower in the slot
abbrev pub Carries : View → ℕ → Type 0
Carries v slot = (i : ℕ) × (p : Part) × (get_elem? v.parts i ≡ some p) × (p.slot ≡ slot)

-- and its next move is the one at the place `next` of the log
abbrev pub CarriesAt : View → ℕ → ℕ → Type 0
CarriesAt v slot next = (i : ℕ) × (p : Part) × (get_elem? v.parts i ≡ some p) × (p.slot ≡ slot) × (next_of p ≡ next)

-- ---- A follower's slot, where it joined and what it has taken: what loads leave unchanged in a part.

abbrev pub Holding : Type 0
Holding = ℕ × ℕ × List Triple

abbrev pub holding_of : Part → Holding
holding_of p = (p.slot, p.joined, p.taken)

-- the follower in the slot has taken these moves too
abbrev pub with_items : ℕ → List Triple → Holding → Holding
with_items slot items h = if h.0 == slot then (h.0, h.1, h.2 ++ items) else h

abbrev pub items_of : Taken → List Triple
items_of (Move place m) = m ∷ []
items_of Nothing = []
items_of (Over outcome) = []
items_of Cut = []

-- of a part: the status was loaded for it, once, and it has seen the log's length and the outcome that the board knows
abbrev pub HasLooked : View → Part → Part → Type 0
HasLooked v p q = (q.loads ≡ p.loads + 1) × (q.seen ≡ length v.log) × (q.outcome ≡ v.outcome)

-- what a take did to the part that took, by the answer: the status was loaded for each answer but `Cut`, for which nothing was done
abbrev pub Looked : Taken → View → Part → Part → Type 0
Looked (Move place m) v p q = HasLooked v p q
Looked Nothing v p q = HasLooked v p q × (q.closing ≡ p.closing)
Looked (Over outcome) v p q = HasLooked v p q × (q.closing ≡ p.closing)
Looked Cut v p q = q ≡ p

-- a take in the slot: only parts have changed, what the one in the slot has taken grew by what was answered, and what it has seen is the
-- board's
pub record TookAt (slot : ℕ) (answer : Taken) (v w : View) : Type 0 where
  pub owns : w.owns ≡ v.owns
  pub setup : w.setup ≡ v.setup
  pub log : w.log ≡ v.log
  pub outcome : w.outcome ≡ v.outcome
  pub notes : w.notes ≡ v.notes
  pub closings : w.closings ≡ v.closings
  pub parts : map holding_of w.parts ≡ map (with_items slot (items_of answer)) (map holding_of v.parts)
  pub looked : (i : ℕ) (p : Part) → get_elem? v.parts i ≡ some p → p.slot ≡ slot → (q : Part)
      × (get_elem? w.parts i ≡ some q) × Looked answer v p q
