-- Runs one after another, in which each step was accepted.
use Rattle.std.proofs.Common.{refl, ◌≡◌, ℕ, ◌+◌, ◌<◌, true, List, [], ◌∷◌, ◌++◌, length, take, get_or, Option, ◌∙◌, sym, ap, subst, arith, append_assoc}
use Rattle.std.specs.Prelude.{◌≢◌}
use Rattle.std.proofs.lemmas.List.{append-nil, length-take-le, take_more}
use Rattle.c960_game.specs.declared.refusal.Refusal.{Refusal}
use Rattle.c960_game.specs.declared.refusal.Refusal.TheVariants.{OutOfMemory}
use Rattle.c960_game.specs.Limits.{LimitNumbers}
use Rattle.relay_core.specs.declared.reply.Reply.{Reply}
use Rattle.relay_core.specs.declared.reply.Reply.TheVariants.{Refused}
use Rattle.relay_core.specs.declared.step.Step.{Step}
use Rattle.relay_core.specs.History.{History, is_accepted}
use Rattle.relay_hall.specs.declared.handed.Handed.{Handed}
use Rattle.relay_hall.specs.declared.owner.Owner.{Owner}
use Rattle.relay_hall.specs.Record.{HallRecord, nobody_yet}
use Rattle.relay_hall.specs.Runs.{HallEvent, Says, Time, HallTold, Replied, Silent, HallStep, HallRuns, history_after}
use Rattle.relay_hall.specs.Steps.{Makes}
use Rattle.relay_hall.specs.Times.{Timed}
use Rattle.relay_journal.specs.declared.entry.Entry.{Entry}
use Rattle.relay_journal.specs.Kept.{key_of, step_of}
use Rattle.relay_journal.specs.Restarting.{AllAccepted, IsRefusedBy, IsRestarted, Leads, comes, each_from, gone_from, said_again, said_from, sayer}

runs_append : (k : HallRecord) (h : History) (es fs : List HallEvent) (ts us : List HallTold) (g i : History) (l m : HallRecord)
    → HallRuns k h es ts g l → HallRuns l g fs us i m → HallRuns k h (es ++ fs) (ts ++ us) i m
runs_append k h [] fs [] us g i l m (g-is, l-is) more =
    subst (λ (x : HallRecord). HallRuns x h fs us i m) l-is (subst (λ (y : History). HallRuns l y fs us i m) g-is more)
runs_append k h [] fs (t ∷ ts) us g i l m r more = absurd r
runs_append k h (e ∷ es) fs [] us g i l m r more = absurd r
runs_append k h (e ∷ es) fs (t ∷ ts) us g i l m (mid, first, r) more =
    (mid, first, runs_append mid (history_after k e t mid h) es fs ts us g i l m r more)

accepted_append : (ts us : List HallTold) → AllAccepted ts → AllAccepted us → AllAccepted (ts ++ us)
accepted_append [] us all more = more
accepted_append (Replied reply handed ∷ ts) us (one, all) more = (one, accepted_append ts us all more)
accepted_append (Silent ∷ ts) us all more = accepted_append ts us all more

module _ (k : HallRecord) (h : History) where
  pub leads_nowhere : Leads k h [] k
  leads_nowhere = record { told = []; history = h; run = (refl, refl); accepted = tt }

  pub leads_silent : (e : HallEvent) (l : HallRecord) → HallStep k e Silent l → Leads k h (e ∷ []) l
  leads_silent e l step = record { told = Silent ∷ []; history = history_after k e Silent l h; run = (l, step, (refl, refl)); accepted = tt }

  pub leads_said : (speaker : Owner) (step : Step) (reply : Reply) (handed : Option Handed) (l : HallRecord)
      → HallStep k (Says speaker step) (Replied reply handed) l → is_accepted reply ≡ true → Leads k h (Says speaker step ∷ []) l
  leads_said speaker step reply handed l makes ok = record {
    told = Replied reply handed ∷ [];
    history = history_after k (Says speaker step) (Replied reply handed) l h;
    run = (l, makes, (refl, refl));
    accepted = (ok, tt);
  }

  pub leads_on : (es fs : List HallEvent) (l m : HallRecord) (first : Leads k h es l) → Leads l first.history fs m → Leads k h (es ++ fs) m
  leads_on es fs l m first more = record {
    told = first.told ++ more.told;
    history = more.history;
    run = runs_append k h es fs first.told more.told first.history more.history l m first.run more.run;
    accepted = accepted_append first.told more.told first.accepted more.accepted;
  }

  pub leads_then : (es fs : List HallEvent) (l m : HallRecord) → Leads k h es l → ((g : History) → Leads l g fs m) → Leads k h (es ++ fs) m
  leads_then es fs l m first next = leads_on es fs l m first (next first.history)

-- ---- One entry more.

pub each_push : (act : ℕ → Entry → List HallEvent) (who : ℕ) (es : List Entry) (e : Entry)
    → each_from act who (es ++ e ∷ []) ≡ each_from act who es ++ act (who + length es) e
each_push act who [] e =
    let same : who ≡ who + length {A = Entry} [] = omega arith in
    append-nil (act who e) ∙ ap (λ (n : ℕ). act n e) same
each_push act who (x ∷ es) e =
    let place : who + 1 + length es ≡ who + length (x ∷ es) = omega arith in
    ap (λ (t : List HallEvent). act who x ++ t) (each_push act (who + 1) es e)
    ∙ sym (append_assoc (act who x) (each_from act (who + 1) es) (act (who + 1 + length es) e))
    ∙ ap (λ (n : ℕ). (act who x ++ each_from act (who + 1) es) ++ act n e) place

module _ (act : ℕ → Entry → List HallEvent) (k l m : HallRecord) (h : History) (es : List Entry) where
  -- the entry of this place is next
  pub each_next : (at : ℕ) (e : Entry) → at < length es → e ≡ get_or es at e → Leads k h (each_from act 0 (take at es)) l
      → ((g : History) → Leads l g (act at e) m) → Leads k h (each_from act 0 (take (at + 1) es)) m
  each_next at e within is before next =
      let size : length (take at es) ≡ at = length-take-le at es (omega (arith, within)) in
      let place : 0 + length (take at es) ≡ at = omega (arith, size) in
      let one_more = take_more es at e within ∙ ap (λ (x : Entry). take at es ++ x ∷ []) (sym is) in
      let events : each_from act 0 (take (at + 1) es) ≡ each_from act 0 (take at es) ++ act at e =
      ap (λ (xs : List Entry). each_from act 0 xs) one_more ∙ each_push act 0 (take at es) e
      ∙ ap (λ (n : ℕ). each_from act 0 (take at es) ++ act n e) place in
      subst (λ (evs : List HallEvent). Leads k h evs m) (sym events) (leads_then k h (each_from act 0 (take at es)) (act at e) l m before next)

-- ---- An entry is said.

module _ (k there l : HallRecord) (who : ℕ) (e : Entry) (key : Option (List ℕ)) (step : Step) (reply : Reply) (handed : Option Handed)
    (key-is : key ≡ key_of e) (step-is : step ≡ step_of e) (came : (h : History) → Leads k h (comes key) there)
    (made : Makes there.floor (record { key = key; opener = who }) step reply handed l.floor) (rest : l ≡ record there { floor = l.floor }) where
  comes_first : (h : History) → Leads k h (comes (key_of e)) there
  comes_first = subst (λ (x : Option (List ℕ)). (h : History) → Leads k h (comes x) there) key-is came

  then_makes : Makes there.floor (sayer who e) (step_of e) reply handed l.floor
  then_makes =
      subst (λ (x : Option (List ℕ)). Makes there.floor (record { key = x; opener = who }) (step_of e) reply handed l.floor) key-is
      (subst (λ (s : Step). Makes there.floor (record { key = key; opener = who }) s reply handed l.floor) step-is made)

  pub said_and_accepted : is_accepted reply ≡ true → (h : History) → Leads k h (said_again who e) l
  said_and_accepted ok = λ h.
      leads_then k h (comes (key_of e)) (Says (sayer who e) (step_of e) ∷ []) there l (comes_first h)
      (λ g. leads_said there g (sayer who e) (step_of e) reply handed l (then_makes, rest) ok)

  pub said_and_refused : (refusal : Refusal) → reply ≡ Refused refusal → refusal ≢ OutOfMemory → IsRefusedBy k who e
  said_and_refused refusal is ground = record {
    there = there;
    came = comes_first;
    refusal = refusal;
    handed = handed;
    after = l;
    refused = (subst (λ (r : Reply). Makes there.floor (sayer who e) (step_of e) r handed l.floor) is then_makes, rest);
    ground = ground;
  }

-- ---- A whole restart.

pub is_restarted : (limits : LimitNumbers) (grace now : ℕ) (es : List Entry) (k mid ticked l : HallRecord) → k ≡ nobody_yet limits grace
    → Leads k [] (said_from 0 es) mid → Timed mid now ticked → ((g : History) → Leads ticked g (gone_from 0 es) l) → IsRestarted limits grace now es l
is_restarted limits grace now es k mid ticked l nobody said timed gone =
    leads_then (nobody_yet limits grace) [] (said_from 0 es) (Time now ∷ gone_from 0 es) mid l
    (subst (λ (x : HallRecord). Leads x [] (said_from 0 es) mid) nobody said)
    (λ g. leads_then mid g (Time now ∷ []) (gone_from 0 es) ticked l (leads_silent mid g (Time now) ticked timed) gone)
