-- What a board and a follower learn when they meet.
use Rattle.std.specs.Prelude.{◌≡◌, ◌≢◌, ℕ, ◌≤◌, length, Option, Some, None}
use mathlib.Core.Option.{some}
use lib.ListN.{get_elem?}
use Rattle.relay_core.specs.Following.{stretch}
use Rattle.live_board.specs.declared.note.Note.{Note}
use Rattle.live_board.specs.declared.note.Note.TheVariants.{Vacant, Open, Closed}
use Rattle.live_board.specs.declared.view.Part.{Part}
use Rattle.live_board.specs.declared.view.View.{View}
use Rattle.live_board.specs.Views.{next_of, sees, learns}
use Rattle.live_board.specs.Takes.{HasSeenNoLess}

-- the closing that is noted
abbrev pub closing_noted : Note → Option ℕ
closing_noted (Closed c) = Some c
closing_noted (Open joined least) = None
closing_noted Vacant = None

-- The follower had loaded the status and learned what its cursor said; it has taken nothing, and has seen no less than before. Start, log,
-- outcome and closings of the board's view are unchanged.
-- Its list is the stretch of the board's log from where it joined, it has seen the board's length and outcome, and it knows the closing
-- that the board notes of it, if there is one: a length of the log.
pub record Met (v : View) (p : Part) (w : View) (q : Part) : Type 0 where
  pub setup : w.setup ≡ v.setup
  pub log : w.log ≡ v.log
  pub outcome : w.outcome ≡ v.outcome
  pub closings : w.closings ≡ v.closings
  pub learned : (status cursor : ℕ) × (q ≡ learns cursor (sees status p))
  pub no_less : HasSeenNoLess p q
  pub seen : q.seen ≡ length v.log
  pub over : q.outcome ≡ v.outcome
  pub within : next_of q ≤ length v.log
  pub has_stretch : q.taken ≡ stretch q.joined (next_of q) v.log
  pub note : Note
  pub noted : get_elem? w.notes q.slot ≡ some note
  pub there : note ≢ Vacant
  pub closing : q.closing ≡ closing_noted note
  pub closed : (c : ℕ) → q.closing ≡ Some c → c ≤ length v.log
