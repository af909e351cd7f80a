-- What each event makes of what is kept.
use Rattle.std.proofs.Common.{refl, ◌≡◌, ℕ, Bool, true, false, cond, is_some, List, [], length, Option, None, Some, Result, Ok, Err, inl, inr, ◌∙◌, sym, ap, subst}
use Rattle.std.specs.Map.{lookup}
use Rattle.c960_board.specs.Moves.{Triple}
use Rattle.c960_game.specs.declared.ending.Ending.{Ending}
use Rattle.c960_game.specs.declared.outcome.Outcome.{Outcome}
use Rattle.c960_game.specs.declared.refusal.Refusal.{Refusal}
use Rattle.c960_game.specs.Record.{with_move}
use Rattle.relay_core.proofs.lemmas.Lists.{lookup-map, none_below}
use Rattle.relay_core.proofs.lemmas.Refusals.{nothing, opened_where}
use Rattle.relay_core.specs.BoardAnswers.{ended_by}
use Rattle.relay_core.specs.declared.reply.Reply.{Reply}
use Rattle.relay_core.specs.declared.reply.Reply.TheVariants.{Opened}
use Rattle.relay_core.specs.declared.step.Step.{Step}
use Rattle.relay_core.specs.declared.step.Step.TheVariants.{Open, Submit, End, Follow, Take, Leave}
use Rattle.relay_core.specs.History.{is_accepted}
use Rattle.relay_core.specs.Name.{same_name}
use Rattle.relay_hall.proofs.lemmas.Sweeping.{IsApart, apart_changed, apart_push, apart_swept}
use Rattle.relay_hall.specs.declared.handed.Handed.{Handed}
use Rattle.relay_hall.specs.declared.owner.Owner.{Owner}
use Rattle.relay_hall.specs.Owning.{is_left_by}
use Rattle.relay_hall.specs.Record.{FloorRecord, HallBoard, HallRecord, games_of}
use Rattle.relay_hall.specs.Steps.{Makes, OpensAs, after_end, after_submit, answer_to_end, answer_to_open, answer_to_submit, new_board, reply_to_end, reply_to_play, with_game}
use Rattle.relay_hall.specs.Times.{WentBy, has_waited, is_left_all, swept_floor}
use Rattle.relay_hall.specs.Runs.{HallEvent, Comes, Says, Goes, Time, Shuts, Ends, HallTold, Replied, Silent, HallStep, goes_left}
use Rattle.relay_journal.specs.Entries.{ends_in, entries_at, entry_of}
use Rattle.relay_journal.specs.declared.entry.Entry.{Entry}
use Rattle.relay_journal.specs.Kept.{kept_end, kept_move, kept_of, replayed}
use Rattle.relay_journal.proofs.Changes.{kept_changed, kept_pushed, kept_with_end, kept_with_move}
use Rattle.relay_journal.proofs.Sweeps.{kept_swept}

-- these entries lead to these boards, whose names stay apart
pub record LeadsOn (f : FloorRecord) (js : List Entry) (l : FloorRecord) : Type 0 where
  pub kept : kept_of l ≡ replayed (kept_of f) js
  pub apart : IsApart l.boards

stays : (f l : FloorRecord) → IsApart f.boards → l ≡ f → LeadsOn f [] l
stays f l apart is = subst (λ (x : FloorRecord). LeadsOn f [] x) (sym is) (record { kept = refl; apart = apart })

module _ (f : FloorRecord) (apart : IsApart f.boards) (speaker : Owner) where
  -- the entries of a step with this reply
  abbrev told : Step → Reply → List Entry
  told step reply = cond (is_accepted reply) (entry_of speaker step) []

  opens : (name : List ℕ) (start : ℕ) (a : Result Unit Refusal) → a ≡ answer_to_open f name start → (reply : Reply) (l : FloorRecord)
      → OpensAs f speaker name start a reply l → LeadsOn f (told (Open name start) reply) l
  opens name start (Err refusal) is reply l (reply-is, l-is) =
      subst (λ (r : Reply). LeadsOn f (told (Open name start) r) l) (sym reply-is) (stays f l apart l-is)
  opens name start (Ok u) is reply l (inl (table, reply-is, l-is)) =
      let b = new_board f table speaker start in
      let none = nothing (lookup (same_name name) (games_of f)) (opened_where (is_some (lookup (same_name name) (games_of f))) start (length (games_of f)) f.limits.boards u is).0 in
      let free : lookup (same_name name) f.boards ≡ None = none_below (λ (x : HallBoard). x.game) (lookup (same_name name) f.boards) (sym (lookup-map (same_name name) (λ (x : HallBoard). x.game) f.boards) ∙ none) in
      subst (λ (r : Reply). LeadsOn f (told (Open name start) r) l) (sym reply-is)
      (subst (λ (x : FloorRecord). LeadsOn f (told (Open name start) Opened) x) (sym l-is) (record {
        kept = kept_pushed f.boards name b;
        apart = apart_push f.boards name b apart free;
      }))
  opens name start (Ok u) is reply l (inr (reply-is, l-is)) =
      subst (λ (r : Reply). LeadsOn f (told (Open name start) r) l) (sym reply-is) (stays f l apart l-is)

  submits : (name : List ℕ) (m : Triple) (a : Result (ℕ × Option Outcome) Refusal) → LeadsOn f (told (Submit name m) (reply_to_play a)) (after_submit f name m a)
  submits name m (Ok played) = record {
    kept = kept_changed name (with_game (λ g. with_move g m)) (kept_move m) (kept_with_move m) f.boards;
    apart = apart_changed name (with_game (λ g. with_move g m)) f.boards apart;
  }
  submits name m (Err refusal) = stays f f apart refl

  ends : (name : List ℕ) (ending : Ending) (a : Result Outcome Refusal) → LeadsOn f (told (End name ending) (reply_to_end a)) (after_end f name ending a)
  ends name ending (Ok outcome) = record {
    kept = kept_changed name (with_game (ended_by ending)) (kept_end ending) (kept_with_end ending) f.boards;
    apart = apart_changed name (with_game (ended_by ending)) f.boards apart;
  }
  ends name ending (Err refusal) = stays f f apart refl

  -- a step without an entry
  silent : (reply : Reply) (l : FloorRecord) → l ≡ f → LeadsOn f (cond (is_accepted reply) [] []) l
  silent reply l is = by (is_accepted reply)
    where
      by : (t : Bool) → LeadsOn f (cond t [] []) l
      by true = stays f l apart is
      by false = stays f l apart is

  makes : (step : Step) (reply : Reply) (handed : Option Handed) (l : FloorRecord) → Makes f speaker step reply handed l → LeadsOn f (told step reply) l
  makes (Open name start) reply handed l m = opens name start (answer_to_open f name start) refl reply l m.0
  makes (Submit name x) reply handed l (reply-is, l-is, none) =
      subst (λ (r : Reply). LeadsOn f (told (Submit name x) r) l) (sym reply-is)
      (subst (λ (y : FloorRecord). LeadsOn f (told (Submit name x) (reply_to_play (answer_to_submit f name x))) y) (sym l-is) (submits name x (answer_to_submit f name x)))
  makes (End name x) reply handed l (reply-is, l-is, none) =
      subst (λ (r : Reply). LeadsOn f (told (End name x) r) l) (sym reply-is)
      (subst (λ (y : FloorRecord). LeadsOn f (told (End name x) (reply_to_end (answer_to_end f name x))) y) (sym l-is) (ends name x (answer_to_end f name x)))
  makes (Follow who name from) reply handed l (follows, l-is) = silent reply l l-is
  makes (Take who) reply handed l (reply-is, l-is, none) = silent reply l l-is
  makes (Leave who) reply handed l (reply-is, l-is, none) = silent reply l l-is

module _ (k : HallRecord) (apart : IsApart k.floor.boards) where
  swept_to : (gone : Owner → Bool) (l : HallRecord) → l.floor ≡ swept_floor k.floor gone → LeadsOn k.floor (ends_in gone k.floor.boards) l.floor
  swept_to gone l is = subst (λ (x : FloorRecord). LeadsOn k.floor (ends_in gone k.floor.boards) x) (sym is) (record {
    kept = sym (kept_swept gone k.floor.boards apart);
    apart = apart_swept gone k.floor.boards apart;
  })

  gone_to : (who : ℕ) (key : Option (List ℕ)) (l : HallRecord) → WentBy k who key l → LeadsOn k.floor (ends_in (goes_left l who key) k.floor.boards) l.floor
  gone_to who None l l-is = swept_to (is_left_by who) l (ap (λ (x : HallRecord). x.floor) l-is)
  gone_to who (Some key) l (one, others, l-is) = swept_to (is_left_all l.keys key) l (ap (λ (x : HallRecord). x.floor) l-is)

  pub steps : (e : HallEvent) (t : HallTold) (l : HallRecord) → HallStep k e t l → LeadsOn k.floor (entries_at k e t l) l.floor
  steps (Comes key) Silent l (a, b, c, l-is) = stays k.floor l.floor apart (ap (λ (x : HallRecord). x.floor) l-is)
  steps (Says speaker step) Silent l s = absurd s
  steps (Goes who) Silent l s = gone_to who.opener who.key l s
  steps (Time t) Silent l (a, l-is) = swept_to (λ o. has_waited (Some t) k.keys o.key) l (ap (λ (x : HallRecord). x.floor) l-is)
  steps Shuts Silent l (a, l-is) = swept_to (λ o. has_waited None k.keys o.key) l (ap (λ (x : HallRecord). x.floor) l-is)
  steps Ends Silent l s = swept_to (λ _. true) l (ap (λ (x : HallRecord). x.floor) s)
  steps (Comes key) (Replied reply handed) l s = absurd s
  steps (Says speaker step) (Replied reply handed) l s = makes k.floor apart speaker step reply handed l.floor s.0
  steps (Goes who) (Replied reply handed) l s = absurd s
  steps (Time t) (Replied reply handed) l s = absurd s
  steps Shuts (Replied reply handed) l s = absurd s
  steps Ends (Replied reply handed) l s = absurd s
