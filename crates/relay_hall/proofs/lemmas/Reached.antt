-- A hall to which events lead: each event goes on from it.
use Rattle.std.proofs.Common.{◌≡◌, inl, inr, ℕ, true, is_some, List, [], ◌∷◌, ◌++◌, Option, None, Some, Result, Ok, Err, OnOk, OnErr, refl, sym, ap, ◌∙◌, subst}
use Rattle.std.specs.Prelude.{IfOk}
use Rattle.c960_board.specs.Moves.{Triple}
use Rattle.c960_game.specs.declared.ending.Ending.{Ending}
use Rattle.c960_game.specs.declared.outcome.Outcome.{Outcome}
use Rattle.c960_game.specs.declared.refusal.Refusal.{Refusal}
use Rattle.c960_game.specs.Limits.{LimitNumbers}
use Rattle.relay_core.specs.declared.reply.Reply.{Reply}
use Rattle.relay_core.specs.declared.step.Step.{Step}
use Rattle.relay_core.specs.declared.step.Step.TheVariants.{Open, Submit, End, Follow, Take, Leave}
use Rattle.relay_core.specs.History.{History}
use Rattle.relay_hall.specs.declared.handed.Handed.{Handed}
use Rattle.relay_hall.specs.declared.holders.Holder.{Holder}
use Rattle.relay_hall.specs.declared.owner.Owner.{Owner}
use Rattle.relay_hall.specs.Holders.{OthersStay, presence_of, with_newcomer}
use Rattle.relay_hall.specs.Record.{FloorRecord, HallRecord, nobody_yet}
use Rattle.relay_hall.specs.Runs.{HallEvent, Comes, Says, Goes, Time, Shuts, Ends, HallTold, Replied, Silent, HallRuns, HallStep, IsOneStep, IsReached, Passes, history_after}
use Rattle.relay_hall.specs.Steps.{Makes, OpensAs, after_end, after_submit, answer_to_end, answer_to_open, answer_to_submit}
use Rattle.relay_hall.specs.Talk.{IsAnsweredBy, IsUnansweredBy}
use Rattle.relay_hall.specs.Times.{WentBy}
use Rattle.relay_hall.proofs.lemmas.OneStep.{answered_once, unanswered_once}

-- ---- No event changes the limits or the grace.

opened_within : (f : FloorRecord) (speaker : Owner) (name : List ℕ) (start : ℕ) (a : Result Unit Refusal) (reply : Reply) (l : FloorRecord) → OpensAs f speaker name start a reply l → l.limits ≡ f.limits
opened_within f speaker name start (Err refusal) reply l (reply-is, is) = ap (λ (x : FloorRecord). x.limits) is
opened_within f speaker name start (Ok u) reply l (inl (table, reply-is, is)) = ap (λ (x : FloorRecord). x.limits) is
opened_within f speaker name start (Ok u) reply l (inr (reply-is, is)) = ap (λ (x : FloorRecord). x.limits) is

submitted_within : (f : FloorRecord) (name : List ℕ) (m : Triple) (a : Result (ℕ × Option Outcome) Refusal) → (after_submit f name m a).limits ≡ f.limits
submitted_within f name m (Ok played) = refl
submitted_within f name m (Err refusal) = refl

ended_within : (f : FloorRecord) (name : List ℕ) (ending : Ending) (a : Result Outcome Refusal) → (after_end f name ending a).limits ≡ f.limits
ended_within f name ending (Ok outcome) = refl
ended_within f name ending (Err refusal) = refl

made_within : (f : FloorRecord) (speaker : Owner) (step : Step) (reply : Reply) (handed : Option Handed) (l : FloorRecord) → Makes f speaker step reply handed l → l.limits ≡ f.limits
made_within f speaker (Open name start) reply handed l m = opened_within f speaker name start (answer_to_open f name start) reply l m.0
made_within f speaker (Submit name x) reply handed l (reply-is, is, none) = ap (λ (y : FloorRecord). y.limits) is ∙ submitted_within f name x (answer_to_submit f name x)
made_within f speaker (End name x) reply handed l (reply-is, is, none) = ap (λ (y : FloorRecord). y.limits) is ∙ ended_within f name x (answer_to_end f name x)
made_within f speaker (Follow who name from) reply handed l (follows, is) = ap (λ (y : FloorRecord). y.limits) is
made_within f speaker (Take who) reply handed l (reply-is, is, none) = ap (λ (y : FloorRecord). y.limits) is
made_within f speaker (Leave who) reply handed l (reply-is, is, none) = ap (λ (y : FloorRecord). y.limits) is

-- a hall where nobody is yet, of these limits and this grace
abbrev setting : HallRecord → HallRecord
setting k = nobody_yet k.floor.limits k.grace

went_within : (k : HallRecord) (who : ℕ) (key : Option (List ℕ)) (l : HallRecord) → WentBy k who key l → setting l ≡ setting k
went_within k who None l is = ap setting is
went_within k who (Some key) l (one, others, is) = ap setting is

passed_within : (k : HallRecord) (e : HallEvent) (l : HallRecord) → Passes k e l → setting l ≡ setting k
passed_within k (Comes key) l (there, one, others, is) = ap setting is
passed_within k (Says speaker step) l s = absurd s
passed_within k (Goes who) l s = went_within k who.opener who.key l s
passed_within k (Time t) l (all, is) = ap setting is
passed_within k Shuts l (all, is) = ap setting is
passed_within k Ends l is = ap setting is

pub step_within : (k : HallRecord) (e : HallEvent) (t : HallTold) (l : HallRecord) → HallStep k e t l → setting l ≡ setting k
step_within k e Silent l s = passed_within k e l s
step_within k (Says speaker step) (Replied reply handed) l (makes, is) = ap setting is ∙ ap (λ (n : LimitNumbers). nobody_yet n k.grace) (made_within k.floor speaker step reply handed l.floor makes)
step_within k (Comes key) (Replied reply handed) l s = absurd s
step_within k (Goes who) (Replied reply handed) l s = absurd s
step_within k (Time t) (Replied reply handed) l s = absurd s
step_within k Shuts (Replied reply handed) l s = absurd s
step_within k Ends (Replied reply handed) l s = absurd s

-- ---- One event more.

pub runs_on : (k : HallRecord) (h : History) (es : List HallEvent) (ts : List HallTold) (g : History) (l : HallRecord) → HallRuns k h es ts g l → (e : HallEvent) (t : HallTold) (m : HallRecord) → HallStep l e t m
    → HallRuns k h (es ++ e ∷ []) (ts ++ t ∷ []) (history_after l e t m g) m
runs_on k h [] [] g l (g-is, l-is) e t m s = (m, subst (λ (x : HallRecord). HallStep x e t m) l-is s, ((λ i. history_after (l-is i) e t m (g-is i)), refl))
runs_on k h [] (u ∷ ts) g l r e t m s = absurd r
runs_on k h (d ∷ es) [] g l r e t m s = absurd r
runs_on k h (d ∷ es) (u ∷ ts) g l (mid, first, r) e t m s = (mid, first, runs_on mid (history_after k d u mid h) es ts g l r e t m s)

pub goes_on : (k : HallRecord) → IsReached k → (e : HallEvent) (t : HallTold) (l : HallRecord) → HallStep k e t l → IsReached l
goes_on k r e t l s =
    let so_far = r.history in
    record {
      events = r.events ++ e ∷ [];
      told = r.told ++ t ∷ [];
      history = history_after k e t l so_far;
      run = subst (λ (b : HallRecord). HallRuns b [] (r.events ++ e ∷ []) (r.told ++ t ∷ []) (history_after k e t l so_far) l) (sym (step_within k e t l s))
          (runs_on (setting k) [] r.events r.told so_far k r.run e t l s);
    }

pub nobody_reached : (limits : LimitNumbers) (grace : ℕ) → IsReached (nobody_yet limits grace)
nobody_reached limits grace = record { events = []; told = []; history = []; run = (refl, refl) }

-- ---- What is heard, and who comes.

heard_once : (k l : HallRecord) (speaker : Owner) (handed : Option Handed) → IsReached k → IsOneStep k speaker handed l → IsReached l
heard_once k l speaker handed r (inl (step, reply, s)) = goes_on k r (Says speaker step) (Replied reply handed) l s
heard_once k l speaker handed r (inr (is, none)) = subst IsReached (sym is) r

pub heard : {S E : Type 0} (bytes : S → List ℕ) (k : HallRecord) (f : FloorRecord) (speaker : Owner) (opened : List (List ℕ)) (text : List ℕ) (handed : Option Handed) (now : List (List ℕ)) (answer : Result S E) → IsReached k
    → IfOk answer (λ s. IsAnsweredBy k.floor speaker opened text (bytes s) handed f now) → OnErr answer (IsUnansweredBy k.floor speaker opened text handed f now) → IsReached (record k { floor = f })
heard bytes k f speaker opened text handed now (Ok s) r ok err = heard_once k (record k { floor = f }) speaker handed r (answered_once k (record k { floor = f }) refl speaker opened handed now text (bytes s) ok)
heard bytes k f speaker opened text handed now (Err e) r ok err = heard_once k (record k { floor = f }) speaker handed r (unanswered_once k (record k { floor = f }) refl speaker opened handed now text err)

pub arrived : {A E : Type 0} (k : HallRecord) (key : List ℕ) (keys : List Holder) (answer : Result A E) → IsReached k
    → OnOk answer (is_some (presence_of key keys) ≡ true) → OnOk answer (presence_of key keys ≡ with_newcomer (presence_of key k.keys)) → OthersStay key k.keys keys → OnErr answer (keys ≡ k.keys)
    → IsReached (record k { keys = keys })
arrived k key keys (Ok a) r there counted others same = goes_on k r (Comes key) Silent (record k { keys = keys }) (there, counted, others, refl)
arrived k key keys (Err e) r there counted others same = subst (λ (x : List Holder). IsReached (record k { keys = x })) (sym same) r
