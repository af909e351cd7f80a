-- Endings of many boards at once.
use Rattle.std.proofs.Common.{◌≡◌, ℕ, Bool, true, false, is_some, cond, List, [], ◌∷◌, length, map, slice_get, Some, Result, Ok, Err, OnErr, OnOk, option_map, refl, sym, ap, ◌∙◌, subst, arith}
use Rattle.std.proofs.lemmas.List.{length-map}
use Rattle.std.proofs.lemmas.Map.Entries.{lookup_from_place}
use Rattle.std.specs.Map.{lookup}
use Rattle.c960_game.specs.declared.ending.Ending.TheVariants.{Abandoned}
use Rattle.c960_game.specs.declared.outcome.Outcome.{Outcome}
use Rattle.c960_game.specs.declared.outcome.Outcome.TheVariants.{Abandoned as AbandonedOutcome}
use Rattle.c960_game.specs.declared.refusal.Refusal.{Refusal}
use Rattle.c960_game.specs.declared.refusal.Refusal.TheVariants.{GameOver}
use Rattle.c960_game.specs.GameRecord.{GameRecord}
use Rattle.c960_game.specs.Limits.{LimitNumbers}
use Rattle.c960_game.specs.Record.{end_answer, with_outcome}
use Rattle.indexmap.proofs.CallerLemmas.{index_map_len-with_value_at, updates-with_value_at}
use Rattle.indexmap.specs.IndexMap.{IndexMap, IsUnique, set_value_at}
use Rattle.relay_core.proofs.lemmas.Ended.{end_goes}
use Rattle.relay_core.proofs.lemmas.Lists.{lookup-map, shown-same, shown-shown}
use Rattle.relay_core.proofs.lemmas.Standing.{keeps}
use Rattle.relay_core.specs.BoardAnswers.{end_answer_at, ended_by}
use Rattle.relay_core.specs.declared.reply.Reply.TheVariants.{Ended}
use Rattle.relay_core.specs.declared.step.Step.TheVariants.{End}
use Rattle.relay_core.specs.Held.Stands.{Goes, IsKept}
use Rattle.relay_core.specs.Name.{same_name}
use Rattle.live_board.specs.Board.{game_of}
use Rattle.live_board.specs.Seats.{BoardSeat}
use Rattle.live_board.specs.Views.{finished}
use Rattle.relay_hall.specs.declared.hosted.Hosted.{Hosted}
use Rattle.relay_hall.specs.declared.owner.Owner.{Owner}
use Rattle.relay_hall.specs.Hosting.{Entries, IsFloor, abandoned_board, abandoned_by, game_in, games, held_by, limits_at, limits_each, limits_in, rows, shown_board}
use Rattle.relay_hall.specs.Record.{FloorRecord, HallBoard}
use Rattle.relay_hall.specs.Steps.{board_limits, with_game}
use Rattle.relay_hall.specs.Times.{abandoned_game, swept_board, swept_floor}
use Rattle.relay_hall.proofs.OneBoard.{not_refused}
use Rattle.relay_hall.proofs.Lists.{same_name_laws, set_same_at}

-- ---- One board.

-- what a hall shows of a board once it is left
pub shown_left : (gone : Owner → Bool) (h : Hosted) → shown_board (abandoned_by gone h) ≡ swept_board gone (shown_board h)
shown_left gone h = by (gone h.owner) (is_some h.board.knows.outcome)
  where
    ended : BoardSeat
    ended = record { table = h.board.table; knows = finished (Some AbandonedOutcome) h.board.knows }

    by : (left over : Bool) → shown_board (cond left (record h { board = cond over h.board (record { table = h.board.table; knows = finished (Some AbandonedOutcome) h.board.knows }) }) h)
        ≡ cond left (record { table = h.board.table; game = cond over (game_in h) (with_outcome (game_in h) AbandonedOutcome); owner = h.owner }) (shown_board h)
    by false over = refl
    by true true = refl
    by true false = refl

pub limits_left : (gone : Owner → Bool) (h : Hosted) → limits_in (abandoned_by gone h) ≡ limits_in h
limits_left gone h = by (gone h.owner) (is_some h.board.knows.outcome)
  where
    by : (left over : Bool) → limits_in (cond left (record h { board = cond over h.board (record { table = h.board.table; knows = finished (Some AbandonedOutcome) h.board.knows }) }) h) ≡ limits_in h
    by false over = refl
    by true true = refl
    by true false = refl

-- a game that is not over may be abandoned
pub may_end : (g : GameRecord) → is_some g.outcome ≡ false → Ok AbandonedOutcome ≡ end_answer g Abandoned
unfolding end_answer
may_end g on = let f : Bool → Result Outcome Refusal = λ t. cond t (Err GameOver) (Ok AbandonedOutcome) in sym (ap f on)

-- what an ending leaves of a board
abandoned_one : (b w : BoardSeat) (answer : Result Outcome Refusal) → answer ≡ end_answer (game_of b.knows) Abandoned → OnErr answer (w ≡ b) → w.table ≡ b.table → OnOk answer (w.knows ≡ finished (Some AbandonedOutcome) b.knows)
    → w ≡ abandoned_board b
unfolding end_answer
abandoned_one b w answer is refused table knows = by (is_some b.knows.outcome) answer is refused knows
  where
    by : (over : Bool) (a : Result Outcome Refusal) → a ≡ cond over (Err GameOver) (Ok AbandonedOutcome) → OnErr a (w ≡ b) → OnOk a (w.knows ≡ finished (Some AbandonedOutcome) b.knows)
        → w ≡ cond over b (record { table = b.table; knows = finished (Some AbandonedOutcome) b.knows })
    by true (Ok o) e r k = absurd (not_refused o GameOver e)
    by true (Err x) e r k = r
    by false (Ok o) e r k = λ i. record { table = table i; knows = k i }
    by false (Err x) e r k = absurd (not_refused AbandonedOutcome x (sym e))

pub abandoned_is : (gone : Owner → Bool) (h : Hosted) (w : BoardSeat) (answer : Result Outcome Refusal) → gone h.owner ≡ true → answer ≡ end_answer (game_in h) Abandoned → OnErr answer (w ≡ h.board) → w.table ≡ h.board.table
    → OnOk answer (w.knows ≡ finished (Some AbandonedOutcome) h.board.knows) → record { board = w; owner = h.owner } ≡ abandoned_by gone h
abandoned_is gone h w answer left is refused table knows =
    ap (λ (b : BoardSeat). record { board = b; owner = h.owner }) (abandoned_one h.board w answer is refused table knows)
    ∙ ap (λ (t : Bool). cond t (record h { board = abandoned_board h.board }) h) (sym left)

module _ {S : Type 0} (limits : LimitNumbers) (m : IndexMap (List ℕ) Hosted S) (i : ℕ) (name : List ℕ) (h : Hosted) (unique : IsUnique same_name m) (at : slice_get m.entries i ≡ Some (name, h)) where
  here : lookup (same_name name) (games m.entries) ≡ Some (game_in h)
  here = lookup-map (same_name name) game_in m.entries ∙ ap (option_map game_in) (lookup_from_place same_name_laws m.entries i name h unique at)

  -- an end of the game of the board at an index
  ends : (w : Hosted) → is_some h.board.knows.outcome ≡ false → game_in w ≡ ended_by Abandoned (game_in h)
      → Goes (held_by limits m.entries) (held_by limits (set_value_at m.entries i w)) (End name Abandoned) (Ended AbandonedOutcome)
  ends w on is = end_goes (held_by limits m.entries) (games (set_value_at m.entries i w)) name Abandoned AbandonedOutcome
      (may_end (game_in h) on ∙ ap (end_answer_at Abandoned) (sym here))
      (λ q. lookup-map (same_name q) game_in (set_value_at m.entries i w)
      ∙ ap (option_map game_in) ((updates-with_value_at m i w same_name_laws unique name h at).0 q)
      ∙ each q (same_name name q)
      ∙ ap (λ o. cond (same_name name q) (option_map (ended_by Abandoned) o) (lookup (same_name q) (games m.entries))) (sym here))
      (length-map {B = List ℕ × GameRecord} (set_value_at m.entries i w) (λ e. (e.0, game_in e.1)) ∙ index_map_len-with_value_at m i w ∙ sym (length-map {B = List ℕ × GameRecord} m.entries (λ e. (e.0, game_in e.1))))
    where
      each : (q : List ℕ) (t : Bool) → option_map game_in (cond t (Some w) (lookup (same_name q) m.entries)) ≡ cond t (Some (ended_by Abandoned (game_in h))) (lookup (same_name q) (games m.entries))
      each q true = ap Some is
      each q false = sym (lookup-map (same_name q) game_in m.entries)

  -- hence a history still leads to the games
  pub kept_one : (gone : Owner → Bool) → IsKept (held_by limits m.entries) → IsKept (held_by limits (set_value_at m.entries i (abandoned_by gone h)))
  kept_one gone kept = by (gone h.owner) (is_some h.board.knows.outcome) refl refl
    where
      as_is : (w : Hosted) → w ≡ h → IsKept (held_by limits (set_value_at m.entries i w))
      as_is w is = subst (λ (es : Entries). IsKept (held_by limits es)) (sym (ap (set_value_at m.entries i) is ∙ set_same_at m.entries i name h at)) kept

      by : (left over : Bool) → gone h.owner ≡ left → is_some h.board.knows.outcome ≡ over
          → IsKept (held_by limits (set_value_at m.entries i (abandoned_by gone h)))
      by false over g o = as_is (abandoned_by gone h) (ap (λ t. cond t (record h { board = abandoned_board h.board }) h) g)
      by true true g o = as_is (abandoned_by gone h) (λ j. cond (g j) (record h { board = cond (o j) h.board (record { table = h.board.table; knows = finished (Some AbandonedOutcome) h.board.knows }) }) h)
      by true false g o =
          let w = abandoned_by gone h in
          let is : game_in w ≡ ended_by Abandoned (game_in h) = λ j. game_in (cond (g j) (record h { board = cond (o j) h.board (record { table = h.board.table; knows = finished (Some AbandonedOutcome) h.board.knows }) }) h) in
          keeps (held_by limits m.entries) (held_by limits (set_value_at m.entries i w)) (End name Abandoned) (Ended AbandonedOutcome) kept refl (ends w o is)

-- ---- All of them.

pub rows_left : (gone : Owner → Bool) (old : Entries) → rows (map (λ e. (e.0, abandoned_by gone e.1)) old) ≡ map (λ e. (e.0, swept_board gone e.1)) (rows old)
rows_left gone old =
    shown-shown shown_board (abandoned_by gone) old
    ∙ shown-same (λ h. shown_board (abandoned_by gone h)) (λ h. swept_board gone (shown_board h)) (shown_left gone) old
    ∙ sym (shown-shown (swept_board gone) shown_board old)

pub sweep_lives : (limits : LimitNumbers) (gone : Owner → Bool) (old new : Entries) (room later : ℕ) → new ≡ map (λ e. (e.0, abandoned_by gone e.1)) old → IsKept (held_by limits new) → later ≡ room → IsFloor limits old room → IsFloor limits new later
sweep_lives limits gone old new room later is kept same hall = record {
  kept = kept;
  limited =
      ap limits_at is ∙ shown-shown limits_in (abandoned_by gone) old
      ∙ shown-same (λ h. limits_in (abandoned_by gone h)) limits_in (limits_left gone) old
      ∙ hall.limited
      ∙ sym (ap (limits_each (board_limits limits)) is ∙ shown-shown (λ (h : Hosted). board_limits limits) (abandoned_by gone) old);
  fits =
      let n : length new ≡ length old = ap length is ∙ length-map {B = List ℕ × Hosted} old (λ e. (e.0, abandoned_by gone e.1)) in
      let h = hall.fits in
      omega (arith, n, h, same);
}

-- if nobody has left, nothing changes
pub none_swept : (f : FloorRecord) (gone : Owner → Bool) → ((o : Owner) → gone o ≡ false) → swept_floor f gone ≡ f
none_swept f gone none = ap (λ (bs : List (List ℕ × HallBoard)). record f { boards = bs }) (by f.boards)
  where
    by : (bs : List (List ℕ × HallBoard)) → map (λ e. (e.0, swept_board gone e.1)) bs ≡ bs
    by [] = refl
    by (e ∷ es) =
        ap (λ (t : Bool). (e.0, cond t (with_game abandoned_game e.1) e.1) ∷ map (λ x. (x.0, swept_board gone x.1)) es) (none e.1.owner)
        ∙ ap (λ (xs : List (List ℕ × HallBoard)). e ∷ xs) (by es)
