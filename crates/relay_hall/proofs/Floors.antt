-- The steps of a hall: what is kept, and what is shown.
use Rattle.std.proofs.Common.{◌≡◌, ◌+◌, ◌<◌, ◌≤◌, ℕ, false, is_some, List, [], ◌∷◌, ◌++◌, length, cond, Option, None, Some, Result, Ok, Err, OnErr, OnOk, option_map, inl, inr, refl, sym, ap, ◌∙◌, subst, arith, length-append}
use Rattle.std.proofs.lemmas.List.{length-map}
use Rattle.std.proofs.lemmas.Option.{same_Some, slice_get-map}
use Rattle.std.specs.Prelude.{IfSome, MatchOption, slice_get}
use Rattle.std.specs.Map.{keys_of, lookup, values_of}
use Rattle.c960_board.specs.declared.parts.Parts.{Parts}
use Rattle.c960_board.specs.Moves.{Triple}
use Rattle.c960_game.specs.declared.ending.Ending.{Ending}
use Rattle.c960_game.specs.declared.outcome.Outcome.{Outcome}
use Rattle.c960_game.specs.declared.refusal.Refusal.{Refusal}
use Rattle.c960_game.specs.declared.refusal.Refusal.TheVariants.{OutOfMemory}
use Rattle.c960_game.specs.GameRecord.{GameRecord}
use Rattle.c960_game.specs.Limits.{LimitNumbers}
use Rattle.c960_game.specs.Record.{opened as new_game, with_move}
use Rattle.relay_core.proofs.lemmas.Ended.{end_goes, end_refused}
use Rattle.relay_core.proofs.lemmas.Lists.{lookup-map, shown, shown-push, shown-shown}
use Rattle.relay_core.proofs.lemmas.Opened.{open_goes}
use Rattle.relay_core.proofs.lemmas.Refusals.{nothing, opened_where}
use Rattle.relay_core.proofs.lemmas.Standing.{keeps}
use Rattle.relay_core.proofs.lemmas.Submits.{submit_goes, submit_refused}
use Rattle.relay_core.specs.BoardAnswers.{end_answer_at, ended_by, play_answer_at}
use Rattle.relay_core.specs.declared.reply.Reply.{Reply}
use Rattle.relay_core.specs.declared.reply.Reply.TheVariants.{Opened, Refused}
use Rattle.relay_core.specs.declared.step.Step.{Step}
use Rattle.relay_core.specs.declared.step.Step.TheVariants.{Open, Submit, End, Follow}
use Rattle.relay_core.specs.Held.Stands.{Goes, IsKept}
use Rattle.relay_core.specs.Name.{same_name}
use Rattle.relay_core.specs.Refusals.{first_refusal, open_grounds}
use Rattle.live_board.specs.Board.{game_of, setup_of}
use Rattle.live_board.specs.declared.limits.BoardLimits.{BoardLimits}
use Rattle.live_board.specs.declared.view.View.{View}
use Rattle.live_board.specs.Seats.{FollowerSeat}
use Rattle.live_board.specs.Views.{starting}
use Rattle.relay_hall.specs.declared.hosted.Hosted.{Hosted}
use Rattle.relay_hall.specs.Keys.{is_owner}
use Rattle.relay_hall.specs.Hosting.{Entries, HandsAt, IsFloor, Swapped, Turned, game_in, games, held_by, limits_at, limits_each, limits_in, rows, shown_board}
use Rattle.relay_hall.specs.Record.{FloorRecord, FloorState, HallBoard, games_of}
use Rattle.relay_hall.specs.Steps.{FollowsAs, Hands, Makes, OpensAs, StateMakes, after_end, after_submit, answer_to_end, answer_to_open, answer_to_submit, board_limits, changed, following, handed_by, is_owned, latest, new_board, reply_of, reply_to_end, reply_to_play}
use Rattle.relay_hall.proofs.OneBoard.{as_many, games_changed, games_stay, keys_stay, limits_stay, rows_changed, rows_stay}
use Rattle.relay_hall.proofs.Lists.{change_length, change_lookup}

-- ---- What a hall shows.

-- it shows these games
pub games_are : (k : FloorRecord) (entries : Entries) → k.boards ≡ rows entries → games_of k ≡ games entries
games_are k entries is = ap (shown (λ (b : HallBoard). b.game)) is ∙ shown-shown (λ (b : HallBoard). b.game) shown_board entries

-- a state with these boards, and otherwise as it was
abbrev pub showing : FloorState → Entries → FloorState
showing s entries = record s { floor = record (s.floor) { boards = rows entries } }

-- ---- A game of one board has changed.

module _ (limits : LimitNumbers) (name : List ℕ) (f : GameRecord → GameRecord) (old new : Entries) (s : Swapped (Turned f) name old new) where
  pub updates : (q : List ℕ) → lookup (same_name q) (games new) ≡ cond (same_name name q) (option_map f (lookup (same_name name) (games old))) (lookup (same_name q) (games old))
  updates q = ap (lookup (same_name q)) (games_changed f name old new s) ∙ change_lookup name f q (games old)

  pub counted : length (games new) ≡ length (games old)
  counted = ap length (games_changed f name old new s) ∙ change_length (same_name name) f (games old)

  pub lives : (room later : ℕ) → IsFloor limits old room → later ≡ room → (step : Step) (reply : Reply) → Goes (held_by limits old) (held_by limits new) step reply → IsFloor limits new later
  lives room later hall same step reply goes = record {
    kept = keeps (held_by limits old) (held_by limits new) step reply hall.kept refl goes;
    limited = limits_stay f name old new s ∙ hall.limited ∙ sym (keys_stay f name old new s (board_limits limits));
    fits = let n = as_many f name old new s in let h = hall.fits in omega (arith, n, h, same);
  }

-- ---- A move.

module _ (limits : LimitNumbers) (name : List ℕ) (m : Triple) (old new : Entries) (answer : Result (ℕ × Option Outcome) Refusal)
    (is : answer ≡ play_answer_at m (option_map game_in (lookup (same_name name) old))) (refused : OnErr answer (new ≡ old)) (swapped : OnOk answer (Swapped (Turned (λ g. with_move g m)) name old new)) where
  at_games : answer ≡ play_answer_at m (lookup (same_name name) (games old))
  at_games = is ∙ ap (play_answer_at m) (sym (lookup-map (same_name name) game_in old))

  pub submit_at : (k : FloorRecord) → k.boards ≡ rows old → answer ≡ answer_to_submit k name m
  submit_at k k-is = at_games ∙ ap (λ (gs : List (List ℕ × GameRecord)). play_answer_at m (lookup (same_name name) gs)) (sym (games_are k old k-is))

  pub submit_goes_on : Goes (held_by limits old) (held_by limits new) (Submit name m) (reply_to_play answer)
  submit_goes_on = by answer at_games refused swapped
    where
      by : (a : Result (ℕ × Option Outcome) Refusal) → a ≡ play_answer_at m (lookup (same_name name) (games old)) → OnErr a (new ≡ old) → OnOk a (Swapped (Turned (λ g. with_move g m)) name old new)
          → Goes (held_by limits old) (held_by limits new) (Submit name m) (reply_to_play a)
      by (Ok played) e r s = submit_goes (held_by limits old) (games new) [] name m played.0 played.1 e (updates limits name (λ g. with_move g m) old new s) (counted limits name (λ g. with_move g m) old new s) refl
      by (Err refusal) e r s = submit_refused (held_by limits old) (games new) [] name m refusal e (ap games r) refl

  pub submit_lives : (room later : ℕ) → IsFloor limits old room → later ≡ room → IsFloor limits new later
  submit_lives room later hall same = by answer submit_goes_on refused swapped
    where
      by : (a : Result (ℕ × Option Outcome) Refusal) → Goes (held_by limits old) (held_by limits new) (Submit name m) (reply_to_play a) → OnErr a (new ≡ old) → OnOk a (Swapped (Turned (λ g. with_move g m)) name old new) → IsFloor limits new later
      by (Ok played) goes r s = lives limits name (λ g. with_move g m) old new s room later hall same (Submit name m) (reply_to_play (Ok played)) goes
      by (Err refusal) goes r s = subst (λ (n : ℕ). IsFloor limits new n) (sym same) (subst (λ (es : Entries). IsFloor limits es room) (sym r) hall)

  pub submit_after : (k : FloorRecord) → k.boards ≡ rows old → record k { boards = rows new } ≡ after_submit k name m answer
  submit_after k k-is = by answer refused swapped
    where
      by : (a : Result (ℕ × Option Outcome) Refusal) → OnErr a (new ≡ old) → OnOk a (Swapped (Turned (λ g. with_move g m)) name old new) → record k { boards = rows new } ≡ after_submit k name m a
      by (Ok played) r s = ap (λ (bs : List (List ℕ × HallBoard)). record k { boards = bs }) (rows_changed (λ g. with_move g m) name old new s) ∙ ap (λ (bs : List (List ℕ × HallBoard)). changed (record k { boards = bs }) name (λ g. with_move g m)) (sym k-is)
      by (Err refusal) r s = ap (λ (bs : List (List ℕ × HallBoard)). record k { boards = bs }) (ap rows r ∙ sym k-is)

  pub submit_makes : (s : FloorState) → s.floor.boards ≡ rows old → StateMakes s (Submit name m) (reply_to_play answer) (showing s new)
  submit_makes s s-is =
      let asked = submit_at s.floor s-is in
      record { handed = None; makes = (ap reply_to_play asked, submit_after s.floor s-is ∙ ap (after_submit s.floor name m) asked, refl); speaker = refl; latest = refl }

-- ---- An ending.

module _ (limits : LimitNumbers) (name : List ℕ) (ending : Ending) (old new : Entries) (answer : Result Outcome Refusal)
    (is : answer ≡ end_answer_at ending (option_map game_in (lookup (same_name name) old))) (refused : OnErr answer (new ≡ old)) (swapped : OnOk answer (Swapped (Turned (ended_by ending)) name old new)) where
  ends_at_games : answer ≡ end_answer_at ending (lookup (same_name name) (games old))
  ends_at_games = is ∙ ap (end_answer_at ending) (sym (lookup-map (same_name name) game_in old))

  pub end_at : (k : FloorRecord) → k.boards ≡ rows old → answer ≡ answer_to_end k name ending
  end_at k k-is = ends_at_games ∙ ap (λ (gs : List (List ℕ × GameRecord)). end_answer_at ending (lookup (same_name name) gs)) (sym (games_are k old k-is))

  pub end_goes_on : Goes (held_by limits old) (held_by limits new) (End name ending) (reply_to_end answer)
  end_goes_on = by answer ends_at_games refused swapped
    where
      by : (a : Result Outcome Refusal) → a ≡ end_answer_at ending (lookup (same_name name) (games old)) → OnErr a (new ≡ old) → OnOk a (Swapped (Turned (ended_by ending)) name old new)
          → Goes (held_by limits old) (held_by limits new) (End name ending) (reply_to_end a)
      by (Ok outcome) e r s = end_goes (held_by limits old) (games new) name ending outcome e (updates limits name (ended_by ending) old new s) (counted limits name (ended_by ending) old new s)
      by (Err refusal) e r s = end_refused (held_by limits old) (games new) name ending refusal e (ap games r)

  pub end_lives : (room later : ℕ) → IsFloor limits old room → later ≡ room → IsFloor limits new later
  end_lives room later hall same = by answer end_goes_on refused swapped
    where
      by : (a : Result Outcome Refusal) → Goes (held_by limits old) (held_by limits new) (End name ending) (reply_to_end a) → OnErr a (new ≡ old) → OnOk a (Swapped (Turned (ended_by ending)) name old new) → IsFloor limits new later
      by (Ok outcome) goes r s = lives limits name (ended_by ending) old new s room later hall same (End name ending) (reply_to_end (Ok outcome)) goes
      by (Err refusal) goes r s = subst (λ (n : ℕ). IsFloor limits new n) (sym same) (subst (λ (es : Entries). IsFloor limits es room) (sym r) hall)

  pub end_after : (k : FloorRecord) → k.boards ≡ rows old → record k { boards = rows new } ≡ after_end k name ending answer
  end_after k k-is = by answer refused swapped
    where
      by : (a : Result Outcome Refusal) → OnErr a (new ≡ old) → OnOk a (Swapped (Turned (ended_by ending)) name old new) → record k { boards = rows new } ≡ after_end k name ending a
      by (Ok outcome) r s = ap (λ (bs : List (List ℕ × HallBoard)). record k { boards = bs }) (rows_changed (ended_by ending) name old new s) ∙ ap (λ (bs : List (List ℕ × HallBoard)). changed (record k { boards = bs }) name (ended_by ending)) (sym k-is)
      by (Err refusal) r s = ap (λ (bs : List (List ℕ × HallBoard)). record k { boards = bs }) (ap rows r ∙ sym k-is)

  pub end_makes : (s : FloorState) → s.floor.boards ≡ rows old → StateMakes s (End name ending) (reply_to_end answer) (showing s new)
  end_makes s s-is =
      let asked = end_at s.floor s-is in
      record { handed = None; makes = (ap reply_to_end asked, end_after s.floor s-is ∙ ap (after_end s.floor name ending) asked, refl); speaker = refl; latest = refl }

-- ---- A follow.

-- each board has the hall's limits
limited_at : (limits : LimitNumbers) (old : Entries) (room : ℕ) → IsFloor limits old room → (name : List ℕ) (h : Hosted) → lookup (same_name name) old ≡ Some h → limits_in h ≡ board_limits limits
limited_at limits old room hall name h at = same_Some _ _
    (sym (ap (option_map limits_in) at) ∙ sym (lookup-map (same_name name) limits_in old)
    ∙ ap (lookup (same_name name)) hall.limited
    ∙ lookup-map (same_name name) (λ (b : Hosted). board_limits limits) old ∙ ap (option_map (λ (b : Hosted). board_limits limits)) at)

module _ (name : List ℕ) (old new : Entries) (turned : MatchOption (lookup (same_name name) old) (new ≡ old) (λ _. Swapped (Turned (λ g. g)) name old new)) where
  -- either way: nothing has happened, or what has is not shown
  either : {P : Type 0} → (new ≡ old → P) → (Swapped (Turned (λ g. g)) name old new → P) → P
  either {P} f g = by (lookup (same_name name) old) turned
    where
      by : (o : Option Hosted) → MatchOption o (new ≡ old) (λ _. Swapped (Turned (λ g. g)) name old new) → P
      by None same = f same
      by (Some h) s = g s

  pub follow_rows : rows new ≡ rows old
  follow_rows = either (λ e. ap rows e) (rows_stay name old new)

  pub follow_lives : (limits : LimitNumbers) (room later : ℕ) → IsFloor limits old room → later ≡ room → IsFloor limits new later
  follow_lives limits room later hall same = subst (λ (n : ℕ). IsFloor limits new n) (sym same) (either (λ e. subst (λ (es : Entries). IsFloor limits es room) (sym e) hall) swapped)
    where
      swapped : Swapped (Turned (λ g. g)) name old new → IsFloor limits new room
      swapped s = record {
        kept = subst (λ (gs : List (List ℕ × GameRecord)). IsKept (record { limits = limits; boards = gs; followers = [] })) (sym (games_stay name old new s)) hall.kept;
        limited = limits_stay (λ g. g) name old new s ∙ hall.limited ∙ sym (keys_stay (λ g. g) name old new s (board_limits limits));
        fits = let n = as_many (λ g. g) name old new s in let h = hall.fits in omega (arith, n, h);
      }

pub follows_as : (f : FloorRecord) (old : Entries) (room : ℕ) → f.boards ≡ rows old → IsFloor f.limits old room → (name : List ℕ) (from : Option ℕ) (answer : Result (FollowerSeat × Parts) Refusal) → HandsAt (lookup (same_name name) old) from answer
    → FollowsAs f name from (lookup (same_name name) f.boards) (reply_of following answer) (handed_by name answer)
follows_as f old room f-is floor name from answer hands =
    subst (λ (o : Option HallBoard). FollowsAs f name from o (reply_of following answer) (handed_by name answer))
    (sym (ap (lookup (same_name name)) f-is ∙ lookup-map (same_name name) shown_board old)) (by (lookup (same_name name) old) refl hands)
  where
    by : (o : Option Hosted) → lookup (same_name name) old ≡ o → HandsAt o from answer → FollowsAs f name from (option_map shown_board o) (reply_of following answer) (handed_by name answer)
    by None at none = (ap (reply_of following) none, ap (handed_by name) none)
    by (Some h) at hands = (answer, subst (λ (limits : BoardLimits). Hands limits (shown_board h) from answer) (limited_at f.limits old room floor name h at) hands, refl, refl)

-- what was handed out, in whatever way the reply is put together. The boards are shown as they were
module _ (s : FloorState) (old new : Entries) (room : ℕ) (s-is : s.floor.boards ≡ rows old) (floor : IsFloor s.floor.limits old room) (same : rows new ≡ rows old) (who : ℕ) (name : List ℕ) (from : Option ℕ)
    (found answer : Result (FollowerSeat × Parts) Refusal) (hands : HandsAt (lookup (same_name name) old) from found) (is : found ≡ answer) (reply : Reply) (reply-is : reply ≡ reply_of following answer) where
  follow_made : Makes s.floor s.speaker (Follow who name from) reply (handed_by name answer) (record (s.floor) { boards = rows new })
  follow_made = (
    subst (λ (r : Reply). FollowsAs s.floor name from (lookup (same_name name) s.floor.boards) r (handed_by name answer)) (sym reply-is)
        (follows_as s.floor old room s-is floor name from answer (subst (λ (a : Result (FollowerSeat × Parts) Refusal). HandsAt (lookup (same_name name) old) from a) is hands)),
    ap (λ (bs : List (List ℕ × HallBoard)). record (s.floor) { boards = bs }) (same ∙ sym s-is),
  )

  pub follow_makes : (t : FloorState) → t ≡ record (showing s new) { handed = latest (handed_by name answer) s.handed } → StateMakes s (Follow who name from) reply t
  follow_makes t t-is = subst (StateMakes s (Follow who name from) reply) (sym t-is)
      (record { handed = handed_by name answer; makes = follow_made; speaker = refl; latest = refl })

-- ---- An open.

module _ (s : FloorState) (old : Entries) (k-is : s.floor.boards ≡ rows old) (name : List ℕ) (start : ℕ) where
  seen : is_some (lookup (same_name name) (games old)) ≡ is_some (lookup (same_name name) old)
  seen = ap is_some (lookup-map (same_name name) game_in old) ∙ by (lookup (same_name name) old)
    where
      by : (o : Option Hosted) → is_some (option_map game_in o) ≡ is_some o
      by None = refl
      by (Some x) = refl

  -- the grounds according to what is kept are those of what is shown
  kept_grounds : first_refusal (open_grounds (is_some (lookup (same_name name) old)) start (length old) s.floor.limits.boards)
      ≡ first_refusal (open_grounds (is_some (lookup (same_name name) (games old))) start (length (games old)) s.floor.limits.boards)
  kept_grounds = λ i. first_refusal (open_grounds (sym seen i) start (sym (length-map {B = List ℕ × GameRecord} old (λ e. (e.0, game_in e.1))) i) s.floor.limits.boards)

  module _ (a : Result Unit Refusal) (is : a ≡ first_refusal (open_grounds (is_some (lookup (same_name name) old)) start (length old) s.floor.limits.boards)) where
    in_games : a ≡ first_refusal (open_grounds (is_some (lookup (same_name name) (games old))) start (length (games old)) s.floor.limits.boards)
    in_games = is ∙ kept_grounds

    asked : a ≡ answer_to_open s.floor name start
    asked = in_games ∙ ap (λ (gs : List (List ℕ × GameRecord)). first_refusal (open_grounds (is_some (lookup (same_name name) gs)) start (length gs) s.floor.limits.boards)) (sym (games_are s.floor old k-is))

  -- refused
  module _ (refusal : Refusal) (is : Err refusal ≡ first_refusal (open_grounds (is_some (lookup (same_name name) old)) start (length old) s.floor.limits.boards)) where
    pub open_refused_makes : StateMakes s (Open name start) (Refused refusal) s
    open_refused_makes = record { handed = None; makes = (subst (λ (a : Result Unit Refusal). OpensAs s.floor s.speaker name start a (Refused refusal) s.floor) (asked (Err refusal) is) (refl, refl), refl); speaker = refl; latest = refl }

  module _ (u : Unit {0}) (is : Ok u ≡ first_refusal (open_grounds (is_some (lookup (same_name name) old)) start (length old) s.floor.limits.boards)) where
    -- without memory
    pub open_none_makes : StateMakes s (Open name start) (Refused OutOfMemory) s
    open_none_makes = record { handed = None; makes = (subst (λ (a : Result Unit Refusal). OpensAs s.floor s.speaker name start a (Refused OutOfMemory) s.floor) (asked (Ok u) is) (inr (refl, refl)), refl); speaker = refl; latest = refl }

    pub is_new : lookup (same_name name) old ≡ None
    is_new = nothing (lookup (same_name name) old) (opened_where (is_some (lookup (same_name name) old)) start (length old) s.floor.limits.boards u is).0

    pub is_fewer : length old < s.floor.limits.boards
    is_fewer = (opened_where (is_some (lookup (same_name name) old)) start (length old) s.floor.limits.boards u is).2

    -- accepted
    module _ (new : Entries) (h : Hosted) (new-is : new ≡ old ++ (name, h) ∷ []) (knows : h.board.knows ≡ starting (setup_of start s.floor.limits)) (owner : h.owner ≡ s.speaker) where
      shown_new : shown_board h ≡ new_board s.floor h.board.table s.speaker start
      shown_new = λ i. record { table = h.board.table; game = game_of (knows i); owner = owner i }

      rows_new : rows new ≡ rows old ++ (name, new_board s.floor h.board.table s.speaker start) ∷ []
      rows_new = ap rows new-is ∙ shown-push shown_board old name h ∙ ap (λ (b : HallBoard). rows old ++ (name, b) ∷ []) shown_new

      games_new : games new ≡ games old ++ (name, new_game start s.floor.limits.plies) ∷ []
      games_new = ap games new-is ∙ shown-push game_in old name h ∙ ap (λ (v : View). games old ++ (name, game_of v) ∷ []) knows

      goes_new : Goes (held_by s.floor.limits old) (held_by s.floor.limits new) (Open name start) Opened
      goes_new = open_goes (held_by s.floor.limits old) name start u (in_games (Ok u) is) (games new) games_new

      pub open_makes : StateMakes s (Open name start) Opened (showing s new)
      open_makes = record {
        handed = None;
        makes = (
          subst (λ (a : Result Unit Refusal). OpensAs s.floor s.speaker name start a Opened (record (s.floor) { boards = rows new })) (asked (Ok u) is)
              (inl (h.board.table, refl, ap (λ (bs : List (List ℕ × HallBoard)). record (s.floor) { boards = bs }) (rows_new ∙ ap (λ (bs : List (List ℕ × HallBoard)). bs ++ (name, new_board s.floor h.board.table s.speaker start) ∷ []) (sym k-is)))),
          refl,
        );
        speaker = refl;
        latest = refl;
      }

      pub open_lives : (room later : ℕ) → IsFloor s.floor.limits old room → room ≤ later + 1 → IsFloor s.floor.limits new later
      open_lives room later hall less = record {
        kept = keeps (held_by s.floor.limits old) (held_by s.floor.limits new) (Open name start) Opened hall.kept refl goes_new;
        limited =
            ap limits_at new-is ∙ shown-push limits_in old name h
            ∙ (λ i. hall.limited i ++ (name, (knows i).setup.limits) ∷ [])
            ∙ sym (shown-push (λ (b : Hosted). board_limits s.floor.limits) old name h) ∙ sym (ap (limits_each (board_limits s.floor.limits)) new-is);
        fits =
            let n : length new ≡ length old + 1 = ap length new-is ∙ length-append old ((name, h) ∷ []) in
            let h = hall.fits in
            omega (arith, n, h, less);
      }

-- ---- What it tells.

pub taken_shown : (name : List ℕ) (entries : Entries) → is_some (lookup (same_name name) entries) ≡ is_some (lookup (same_name name) (rows entries))
taken_shown name entries = by (lookup (same_name name) entries) ∙ sym (ap is_some (lookup-map (same_name name) shown_board entries))
  where
    by : (o : Option Hosted) → is_some o ≡ is_some (option_map shown_board o)
    by None = refl
    by (Some h) = refl

-- where a board is found
pub keys_shown : (entries : Entries) → keys_of (rows entries) ≡ keys_of entries
keys_shown [] = refl
keys_shown (e ∷ es) = ap (λ (names : List (List ℕ)). e.0 ∷ names) (keys_shown es)

pub board_shown : (name : List ℕ) (entries : Entries) (at : ℕ) → slice_get (values_of entries) at ≡ lookup (same_name name) entries
    → option_map (λ (e : List ℕ × HallBoard). e.1) (slice_get (rows entries) at) ≡ lookup (same_name name) (rows entries)
board_shown name entries at found =
    ap (option_map (λ (e : List ℕ × HallBoard). e.1)) (slice_get-map (λ (e : List ℕ × Hosted). (e.0, shown_board e.1)) entries at)
    ∙ by (slice_get entries at)
    ∙ ap (option_map shown_board) (sym (slice_get-map (λ (e : List ℕ × Hosted). e.1) entries at) ∙ found)
    ∙ sym (lookup-map (same_name name) shown_board entries)
  where
    by : (o : Option (List ℕ × Hosted)) → option_map (λ (e : List ℕ × HallBoard). e.1) (option_map (λ (e : List ℕ × Hosted). (e.0, shown_board e.1)) o) ≡ option_map shown_board (option_map (λ (e : List ℕ × Hosted). e.1) o)
    by None = refl
    by (Some e) = refl

module _ (key : Option (List ℕ)) (name : List ℕ) (entries : Entries) where
  pub owned_some : (h : Hosted) → lookup (same_name name) entries ≡ Some h → is_owner key h.owner.key ≡ is_owned key (lookup (same_name name) (rows entries))
  owned_some h at = sym (ap (is_owned key) (lookup-map (same_name name) shown_board entries ∙ ap (option_map shown_board) at))

  pub owned_none : lookup (same_name name) entries ≡ None → false ≡ is_owned key (lookup (same_name name) (rows entries))
  owned_none at = sym (ap (is_owned key) (lookup-map (same_name name) shown_board entries ∙ ap (option_map shown_board) at))

-- ---- A meeting.

module _ (name : List ℕ) (es : Entries) where
  -- what is asked of the board that is shown is asked of the board
  pub meeting_asked : (P : HallBoard → Type 0) → IfSome (lookup (same_name name) (rows es)) P → IfSome (lookup (same_name name) es) (λ h. P (shown_board h))
  meeting_asked P asked = by (lookup (same_name name) es) (subst (λ (o : Option HallBoard). IfSome o P) (lookup-map (same_name name) shown_board es) asked)
    where
      by : (o : Option Hosted) → IfSome (option_map shown_board o) P → IfSome o (λ h. P (shown_board h))
      by None p = tt
      by (Some h) p = p

  -- and what is told of the board is told of what is shown
  pub meeting_told : (none : Type 0) (P : HallBoard → Type 0) → MatchOption (lookup (same_name name) es) none (λ h. P (shown_board h)) → MatchOption (lookup (same_name name) (rows es)) none P
  meeting_told none P told = subst (λ (o : Option HallBoard). MatchOption o none P) (sym (lookup-map (same_name name) shown_board es)) (by (lookup (same_name name) es) told)
    where
      by : (o : Option Hosted) → MatchOption o none (λ h. P (shown_board h)) → MatchOption (option_map shown_board o) none P
      by None p = p
      by (Some h) p = p
