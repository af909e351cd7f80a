-- Whatever happens, the boards of the hall stand at its history.
use Rattle.std.proofs.Common.{◌≡◌, ℕ, Bool, true, false, is_some, List, [], ◌∷◌, ◌++◌, length, cond, Option, None, Some, Result, Ok, Err, option_map, inl, inr, refl, sym, ap, ◌∙◌, subst}
use Rattle.std.specs.Map.{lookup}
use Rattle.c960_board.specs.Moves.{Triple}
use Rattle.c960_game.specs.declared.ending.Ending.{Ending}
use Rattle.c960_game.specs.declared.outcome.Outcome.{Outcome}
use Rattle.c960_game.specs.declared.refusal.Refusal.{Refusal}
use Rattle.c960_game.specs.declared.refusal.Refusal.TheVariants.{OutOfMemory}
use Rattle.c960_game.specs.GameRecord.{GameRecord}
use Rattle.c960_game.specs.Limits.{LimitNumbers}
use Rattle.c960_game.specs.Record.{with_move}
use Rattle.relay_core.proofs.lemmas.Ended.{end_goes, end_refused}
use Rattle.relay_core.proofs.lemmas.Lists.{lookup-map, none_below, shown, shown-push, some_below}
use Rattle.relay_core.proofs.lemmas.Opened.{open_goes, open_no_memory, open_refused}
use Rattle.relay_core.proofs.lemmas.Refusals.{nothing, opened_where}
use Rattle.relay_core.proofs.lemmas.Standing.{shows}
use Rattle.relay_core.proofs.lemmas.Submits.{submit_goes, submit_refused}
use Rattle.relay_core.specs.BoardAnswers.{ended_by}
use Rattle.relay_core.specs.declared.reply.Reply.{Reply}
use Rattle.relay_core.specs.declared.reply.Reply.TheVariants.{Opened, Refused}
use Rattle.relay_core.specs.declared.step.Step.{Step}
use Rattle.relay_core.specs.declared.step.Step.TheVariants.{Open, Submit, End, Follow, Take, Leave}
use Rattle.relay_core.specs.Held.Stands.{HeldStands}
use Rattle.relay_core.specs.History.{History, start_of}
use Rattle.relay_core.specs.Name.{same_name}
use Rattle.relay_core.specs.Stands.{Stands, game_of}
use Rattle.relay_hall.specs.declared.handed.Handed.{Handed}
use Rattle.relay_hall.specs.declared.owner.Owner.{Owner}
use Rattle.relay_hall.specs.Owning.{is_left_by}
use Rattle.relay_hall.specs.Record.{FloorRecord, HallBoard, HallRecord, games_of, nobody_yet, plain_of}
use Rattle.relay_hall.specs.Steps.{Makes, OpensAs, after_end, after_submit, answer_to_end, answer_to_open, answer_to_submit, change_value, changed, new_board, reply_to_end, reply_to_play, with_board, with_game}
use Rattle.relay_hall.specs.Times.{WentBy, has_waited, is_left_all, swept_floor}
use Rattle.relay_hall.proofs.Lists.{change_length, change_lookup}
use Rattle.relay_hall.specs.Runs.{HallEvent, Comes, Says, Goes, Time, Shuts, Ends, HallTold, Replied, Silent, HallRuns, HallStep, Passes, ends_of, goes_left, history_after, said}
use Rattle.relay_hall.proofs.lemmas.Sweeping.{IsApart, apart_changed, apart_push, apart_swept, held, sweeps}

-- the boards stand at the history, and no two have one name
pub record IsAt (limits : LimitNumbers) (k : FloorRecord) (h : History) : Type 0 where
  pub stands : HeldStands limits (held k.limits (games_of k)) h
  pub apart : IsApart k.boards

-- what is shown of a change
change_shown : (n : List ℕ) (f : GameRecord → GameRecord) (es : List (List ℕ × HallBoard)) → shown (λ (b : HallBoard). b.game) (change_value (same_name n) (with_game f) es) ≡ change_value (same_name n) f (shown (λ (b : HallBoard). b.game) es)
change_shown n f [] = refl
change_shown n f (e ∷ es) = by (same_name n e.0) (change_shown n f es)
  where
    by : (t : Bool) → shown (λ (b : HallBoard). b.game) (change_value (same_name n) (with_game f) es) ≡ change_value (same_name n) f (shown (λ (b : HallBoard). b.game) es)
        → shown (λ (b : HallBoard). b.game) (cond t ((e.0, with_game f e.1) ∷ es) (e ∷ change_value (same_name n) (with_game f) es)) ≡ cond t ((e.0, f e.1.game) ∷ shown (λ (b : HallBoard). b.game) es) ((e.0, e.1.game) ∷ change_value (same_name n) f (shown (λ (b : HallBoard). b.game) es))
    by true rest = refl
    by false rest = ap (λ (l : List (List ℕ × GameRecord)). (e.0, e.1.game) ∷ l) rest

module _ (limits : LimitNumbers) (k : FloorRecord) (h : History) (at : IsAt limits k h) (speaker : Owner) where
  -- ---- Open.

  opens : (name : List ℕ) (start : ℕ) (a : Result Unit Refusal) → a ≡ answer_to_open k name start → (reply : Reply) (l : FloorRecord) → OpensAs k speaker name start a reply l → IsAt limits l ((Open name start, reply) ∷ h)
  opens name start (Err refusal) is reply l (reply-is, l-is) =
      subst (λ (r : Reply). IsAt limits l ((Open name start, r) ∷ h)) (sym reply-is)
      (subst (λ (x : FloorRecord). IsAt limits x ((Open name start, Refused refusal) ∷ h)) (sym l-is) (record {
        stands = open_refused (held k.limits (games_of k)) name start refusal is limits h at.stands;
        apart = at.apart;
      }))
  opens name start (Ok u) is reply l (inl (table, reply-is, l-is)) =
      let b = new_board k table speaker start in
      let none = nothing (lookup (same_name name) (games_of k)) (opened_where (is_some (lookup (same_name name) (games_of k))) start (length (games_of k)) k.limits.boards u is).0 in
      let free : lookup (same_name name) k.boards ≡ None = none_below (λ (x : HallBoard). x.game) (lookup (same_name name) k.boards) (sym (lookup-map (same_name name) (λ (x : HallBoard). x.game) k.boards) ∙ none) in
      subst (λ (r : Reply). IsAt limits l ((Open name start, r) ∷ h)) (sym reply-is)
      (subst (λ (x : FloorRecord). IsAt limits x ((Open name start, Opened) ∷ h)) (sym l-is) (record {
        stands = open_goes (held k.limits (games_of k)) name start u is (games_of (with_board k name b)) (shown-push (λ (x : HallBoard). x.game) k.boards name b) limits h at.stands;
        apart = apart_push k.boards name b at.apart free;
      }))
  opens name start (Ok u) is reply l (inr (reply-is, l-is)) =
      subst (λ (r : Reply). IsAt limits l ((Open name start, r) ∷ h)) (sym reply-is)
      (subst (λ (x : FloorRecord). IsAt limits x ((Open name start, Refused OutOfMemory) ∷ h)) (sym l-is) (record {
        stands = open_no_memory (held k.limits (games_of k)) name start u is limits h at.stands;
        apart = at.apart;
      }))

  -- ---- Submit and End.

  shown_changed : (name : List ℕ) (f : GameRecord → GameRecord) → games_of (changed k name f) ≡ change_value (same_name name) f (games_of k)
  shown_changed name f = change_shown name f k.boards

  updates : (name : List ℕ) (f : GameRecord → GameRecord) (q : List ℕ) → lookup (same_name q) (games_of (changed k name f)) ≡ cond (same_name name q) (option_map f (lookup (same_name name) (games_of k))) (lookup (same_name q) (games_of k))
  updates name f q = ap (lookup (same_name q)) (shown_changed name f) ∙ change_lookup name f q (games_of k)

  counted : (name : List ℕ) (f : GameRecord → GameRecord) → length (games_of (changed k name f)) ≡ length (games_of k)
  counted name f = ap length (shown_changed name f) ∙ change_length (same_name name) f (games_of k)

  submits : (name : List ℕ) (m : Triple) (a : Result (ℕ × Option Outcome) Refusal) → a ≡ answer_to_submit k name m → IsAt limits (after_submit k name m a) ((Submit name m, reply_to_play a) ∷ h)
  submits name m (Ok played) is =
      let f : GameRecord → GameRecord = λ g. with_move g m in
      record {
        stands = submit_goes (held k.limits (games_of k)) (games_of (changed k name f)) [] name m played.0 played.1 is (updates name f) (counted name f) refl limits h at.stands;
        apart = apart_changed name (with_game f) k.boards at.apart;
      }
  submits name m (Err refusal) is = record {
    stands = submit_refused (held k.limits (games_of k)) (games_of k) [] name m refusal is refl refl limits h at.stands;
    apart = at.apart;
  }

  ends : (name : List ℕ) (ending : Ending) (a : Result Outcome Refusal) → a ≡ answer_to_end k name ending → IsAt limits (after_end k name ending a) ((End name ending, reply_to_end a) ∷ h)
  ends name ending (Ok outcome) is = record {
    stands = end_goes (held k.limits (games_of k)) (games_of (changed k name (ended_by ending))) name ending outcome is (updates name (ended_by ending)) (counted name (ended_by ending)) limits h at.stands;
    apart = apart_changed name (with_game (ended_by ending)) k.boards at.apart;
  }
  ends name ending (Err refusal) is = record {
    stands = end_refused (held k.limits (games_of k)) (games_of k) name ending refusal is refl limits h at.stands;
    apart = at.apart;
  }

  makes : (step : Step) (reply : Reply) (handed : Option Handed) (l : FloorRecord) → Makes k speaker step reply handed l → IsAt limits l (said step reply h)
  makes (Open name start) reply handed l m = opens name start (answer_to_open k name start) refl reply l m.0
  makes (Submit name x) reply handed l (reply-is, l-is, none) =
      subst (λ (r : Reply). IsAt limits l ((Submit name x, r) ∷ h)) (sym reply-is)
      (subst (λ (y : FloorRecord). IsAt limits y ((Submit name x, reply_to_play (answer_to_submit k name x)) ∷ h)) (sym l-is) (submits name x (answer_to_submit k name x) refl))
  makes (End name x) reply handed l (reply-is, l-is, none) =
      subst (λ (r : Reply). IsAt limits l ((End name x, r) ∷ h)) (sym reply-is)
      (subst (λ (y : FloorRecord). IsAt limits y ((End name x, reply_to_end (answer_to_end k name x)) ∷ h)) (sym l-is) (ends name x (answer_to_end k name x) refl))
  makes (Follow who name from) reply handed l (follows, l-is) = subst (λ (x : FloorRecord). IsAt limits x h) (sym l-is) at
  makes (Take who) reply handed l (reply-is, l-is, none) = subst (λ (x : FloorRecord). IsAt limits x h) (sym l-is) at
  makes (Leave who) reply handed l (reply-is, l-is, none) = subst (λ (x : FloorRecord). IsAt limits x h) (sym l-is) at

-- ---- One event, and all of them.

-- a sweep
swept_at : (limits : LimitNumbers) (f : FloorRecord) (h : History) → IsAt limits f h → (gone : Owner → Bool) → IsAt limits (swept_floor f gone) (ends_of gone f.boards ++ h)
swept_at limits f h at gone = record { stands = sweeps limits f.limits gone f.boards h at.apart at.stands; apart = apart_swept gone f.boards at.apart }

module _ (limits : LimitNumbers) (k : HallRecord) (h : History) (at : IsAt limits k.floor h) where
  -- the boards are these
  these : (f : FloorRecord) (g : History) → IsAt limits f g → (l : HallRecord) → l.floor ≡ f → IsAt limits l.floor g
  these f g st l is = subst (λ (x : FloorRecord). IsAt limits x g) (sym is) st

  swept_to : (gone : Owner → Bool) (l : HallRecord) → l.floor ≡ swept_floor k.floor gone → IsAt limits l.floor (ends_of gone k.floor.boards ++ h)
  swept_to gone l is = these (swept_floor k.floor gone) (ends_of gone k.floor.boards ++ h) (swept_at limits k.floor h at gone) l is

  gone_at : (who : ℕ) (key : Option (List ℕ)) (l : HallRecord) → WentBy k who key l → IsAt limits l.floor (ends_of (goes_left l who key) k.floor.boards ++ h)
  gone_at who None l l-is = swept_to (is_left_by who) l (ap (λ (x : HallRecord). x.floor) l-is)
  gone_at who (Some key) l (one, others, l-is) = swept_to (is_left_all l.keys key) l (ap (λ (x : HallRecord). x.floor) l-is)

  passes : (e : HallEvent) (l : HallRecord) → Passes k e l → IsAt limits l.floor (history_after k e Silent l h)
  passes (Comes key) l (there, one, others, l-is) = these k.floor h at l (ap (λ (x : HallRecord). x.floor) l-is)
  passes (Says speaker step) l s = absurd s
  passes (Goes who) l s = gone_at who.opener who.key l s
  passes (Time t) l (all, l-is) = swept_to (λ o. has_waited (Some t) k.keys o.key) l (ap (λ (x : HallRecord). x.floor) l-is)
  passes Shuts l (all, l-is) = swept_to (λ o. has_waited None k.keys o.key) l (ap (λ (x : HallRecord). x.floor) l-is)
  passes Ends l l-is = swept_to (λ _. true) l (ap (λ (x : HallRecord). x.floor) l-is)

  happens : (e : HallEvent) (t : HallTold) (l : HallRecord) → HallStep k e t l → IsAt limits l.floor (history_after k e t l h)
  happens e Silent l s = passes e l s
  happens (Says speaker step) (Replied reply handed) l s = makes limits k.floor h at speaker step reply handed l.floor s.0
  happens (Comes key) (Replied reply handed) l s = absurd s
  happens (Goes who) (Replied reply handed) l s = absurd s
  happens (Time t) (Replied reply handed) l s = absurd s
  happens Shuts (Replied reply handed) l s = absurd s
  happens Ends (Replied reply handed) l s = absurd s

pub runs : (limits : LimitNumbers) (k : HallRecord) (h : History) → IsAt limits k.floor h → (es : List HallEvent) (ts : List HallTold) (g : History) (l : HallRecord) → HallRuns k h es ts g l → IsAt limits l.floor g
runs limits k h at [] [] g l (g-is, l-is) = subst (λ (x : History). IsAt limits l.floor x) (sym g-is) (subst (λ (x : HallRecord). IsAt limits x.floor h) (sym l-is) at)
runs limits k h at [] (t ∷ ts) g l r = absurd r
runs limits k h at (e ∷ es) [] g l r = absurd r
runs limits k h at (e ∷ es) (t ∷ ts) g l (mid, s, r) = runs limits mid (history_after k e t mid h) (happens limits k h at e t mid s) es ts g l r

pub nobody : (limits : LimitNumbers) (grace : ℕ) → IsAt limits ((nobody_yet limits grace).floor) []
nobody limits grace = record {
  stands = record { given = refl; lawful = tt; boards = λ b. refl; followers = λ who. refl; board_count = refl; followed = refl };
  apart = tt;
}

pub stand : (limits : LimitNumbers) (f : FloorRecord) (g : History) → IsAt limits f g → Stands limits (plain_of f) g
stand limits f g at = shows limits (held f.limits (games_of f)) g at.stands

-- the board of a name, read off the history
pub known : (limits : LimitNumbers) (l : FloorRecord) (g : History) → IsAt limits l g → (name : List ℕ) (b : HallBoard) → lookup (same_name name) l.boards ≡ Some b → (n : ℕ) × (start_of g name ≡ Some n) × (game_of limits g name n ≡ b.game)
known limits l g at name b there =
    some_below (game_of limits g name) (start_of g name) b.game
    (sym (at.stands.boards name) ∙ lookup-map (same_name name) (λ (x : HallBoard). x.game) l.boards ∙ ap (option_map (λ (x : HallBoard). x.game)) there)
