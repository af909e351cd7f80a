-- Each of any number of connections runs as if it were alone, and all of them make one run of the hall.
use Rattle.std.proofs.Common.{◌≡◌, inl, inr, ℕ, nat_eq, List, [], ◌∷◌, Bool, true, false, cond, Option, refl, sym, ap, ◌∙◌, subst}
use Rattle.std.proofs.lemmas.Bool.{eqb-true}
use Rattle.relay_core.specs.History.{History}
use Rattle.relay_hall.specs.declared.handed.Handed.{Handed}
use Rattle.relay_hall.specs.declared.owner.Owner.{Owner}
use Rattle.relay_hall.specs.Record.{HallRecord}
use Rattle.relay_hall.specs.Runs.{HallEvent, HallRuns, HallTold, IsOneStep, Replied, Says, history_after}
use Rattle.relay_service.specs.Calling.Answering.{OperatorRecord, asks, newcomer}
use Rattle.relay_service.specs.Calling.Coming.{comes}
use Rattle.relay_service.specs.Calling.Connections.{AreEventsOf, ConnectionsRecord, IsAt, IsOneRun, OneOrNone, OthersStay, Turn, Turns, deeds_of, happens, passes}
use Rattle.relay_service.specs.Calling.Running.{Deed, IsDone, IsServed, Moment, Runs, came, failed, was_answered, was_pinged, was_sent_away, wrote}
use Rattle.relay_service.proofs.CallingFacts.Deeds.{asking_has_come, has_come_still, who_stays}
use Rattle.relay_service.proofs.CallingFacts.Serving.{is_served}
use Rattle.relay_service.proofs.CallingFacts.Stepping.{answers_as, fails_as}

-- ---- Each alone.

one_of : (i j : ℕ) (x : Deed) (before after : ℕ → OperatorRecord) (ds : List Deed) (d : OperatorRecord) (b : Bool) → nat_eq j i ≡ b
    → IsDone (before j) x (after j) → OthersStay j before after → Runs (after i) ds d → Runs (before i) (cond b (x ∷ ds) ds) d
one_of i j x before after ds d true is done others runs =
    (after i, subst (λ (n : ℕ). IsDone (before n) x (after n)) (eqb-true j i is) done, runs)
one_of i j x before after ds d false is done others runs = subst (λ (c : OperatorRecord). Runs c ds d) (others i is) runs

pub runs_of : (i : ℕ) (f : ConnectionsRecord) (xs : List Turn) (g : ConnectionsRecord) → Turns f xs g → Runs (f.peers i) (deeds_of i xs) (g.peers i)
runs_of i f [] g is = ap (λ (h : ConnectionsRecord). h.peers i) is
runs_of i f (happens j x ∷ xs) g (mid, (done, others, leads), turns) =
    one_of i j x f.peers mid.peers (deeds_of i xs) (g.peers i) (nat_eq j i) refl done others (runs_of i mid xs g turns)
runs_of i f (passes e told ∷ xs) g (mid, (step, same), turns) =
    subst (λ (cs : ℕ → OperatorRecord). Runs (cs i) (deeds_of i xs) (g.peers i)) same (runs_of i mid xs g turns)

pub each_is_served : (f : ConnectionsRecord) (turns : List Turn) (g : ConnectionsRecord) → Turns f turns g → (i : ℕ) (opener : ℕ) (takes_keys : Bool) → f.peers i ≡ newcomer opener takes_keys
    → IsServed opener takes_keys (deeds_of i turns) (g.peers i)
each_is_served f turns g run i opener takes_keys new =
    is_served opener takes_keys (deeds_of i turns) (g.peers i) (subst (λ (c : OperatorRecord). Runs c (deeds_of i turns) (g.peers i)) new (runs_of i f turns g run))

-- ---- A connection whose request is answered stays who it is.

who_stays_on : (c : OperatorRecord) (deeds : List Deed) (d : OperatorRecord) → comes c.stage ≡ false → Runs c deeds d → d.who ≡ c.who
who_stays_on c [] d behind_it is = ap (λ (e : OperatorRecord). e.who) is
who_stays_on c (x ∷ xs) d behind_it (mid, done, runs) = who_stays_on mid xs d (has_come_still c x mid behind_it done) runs ∙ who_stays c x mid behind_it done

-- one that asks is the one that it is in the end
asks_as : (i : ℕ) (f : ConnectionsRecord) (turns : List Turn) (g : ConnectionsRecord) (one : Owner) → (g.peers i).who ≡ one → Turns f turns g
    → asks (f.peers i).stage ≡ true → (f.peers i).who ≡ one
asks_as i f turns g one is run asking =
    sym (who_stays_on (f.peers i) (deeds_of i turns) (g.peers i) (asking_has_come (f.peers i).stage asking) (runs_of i f turns g run)) ∙ is

-- ---- All together.

abbrev RunsFrom : HallRecord → (ℕ → Owner) → List Turn → HallRecord → Type 0
RunsFrom k who turns g = (h : History) → IsOneRun k who turns g h

-- some events, one step of this owner before them or not
record OneBefore (k : HallRecord) (one : Owner) (who : ℕ → Owner) (turns : List Turn) (g : HallRecord) (h : History) : Type 0 where
  events : List HallEvent
  told : List HallTold
  history : History
  run : HallRuns k h events told history g
  rest : List HallEvent
  first : OneOrNone one events rest
  made : AreEventsOf who turns rest

step_before : (k : HallRecord) (one : Owner) (handed : Option Handed) (mid : HallRecord) → IsOneStep k one handed mid
    → (who : ℕ → Owner) (turns : List Turn) (g : HallRecord) → RunsFrom mid who turns g → (h : History) → OneBefore k one who turns g h
step_before k one handed mid (inl (step, reply, made)) who turns g later h =
    let r = later (history_after k (Says one step) (Replied reply handed) mid h) in
    record {
      events = Says one step ∷ r.events;
      told = Replied reply handed ∷ r.told;
      history = r.history;
      run = (mid, made, r.run);
      rest = r.events;
      first = inl (step, refl);
      made = r.made;
    }
step_before k one handed mid (inr (same, none)) who turns g later h =
    let r = later h in
    record {
      events = r.events;
      told = r.told;
      history = r.history;
      run = subst (λ (x : HallRecord). HallRuns x h r.events r.told r.history g) same r.run;
      rest = r.events;
      first = inr refl;
      made = r.made;
    }

-- what a connection says makes one step at most, at the hall as it stands
moment_before : (f mid : HallRecord) (m : Moment) → IsAt f m mid → (one : Owner) → IsOneStep m.before one m.handed m.after
    → (who : ℕ → Owner) (turns : List Turn) (g : HallRecord) → RunsFrom mid who turns g → (h : History) → OneBefore f one who turns g h
moment_before f mid m (before, after) one once who turns g later h =
    step_before f one m.handed mid
    (subst (λ (k : HallRecord). IsOneStep k one m.handed mid) before (subst (λ (l : HallRecord). IsOneStep m.before one m.handed l) (sym after) once))
    who turns g later h

abbrev AreThose : (ℕ → Owner) → ConnectionsRecord → Type 0
AreThose who g = (i : ℕ) → (g.peers i).who ≡ who i

one_run : (who : ℕ → Owner) (f : ConnectionsRecord) (xs : List Turn) (g : ConnectionsRecord) → AreThose who g → Turns f xs g → RunsFrom f.hall who xs g.hall
one_run who f [] g those is h = record { events = []; told = []; history = h; run = (refl, ap (λ (x : ConnectionsRecord). x.hall) is); made = refl }
one_run who f (passes e told ∷ xs) g those (mid, (step, same), turns) h =
    let r = one_run who mid xs g those turns (history_after f.hall e told mid.hall h) in
    record { events = e ∷ r.events; told = told ∷ r.told; history = r.history; run = (mid.hall, step, r.run); made = (r.events, refl, r.made) }
one_run who f (happens i (came bytes) ∷ xs) g those (mid, (done, others, stays), turns) h =
    let r = one_run who mid xs g those turns h in
    record { events = r.events; told = r.told; history = r.history; run = subst (λ (x : HallRecord). HallRuns x h r.events r.told r.history g.hall) stays r.run; made = r.made }
one_run who f (happens i (wrote bytes) ∷ xs) g those (mid, (done, others, stays), turns) h =
    let r = one_run who mid xs g those turns h in
    record { events = r.events; told = r.told; history = r.history; run = subst (λ (x : HallRecord). HallRuns x h r.events r.told r.history g.hall) stays r.run; made = r.made }
one_run who f (happens i (was_pinged some) ∷ xs) g those (mid, (done, others, stays), turns) h =
    let r = one_run who mid xs g those turns h in
    record { events = r.events; told = r.told; history = r.history; run = subst (λ (x : HallRecord). HallRuns x h r.events r.told r.history g.hall) stays r.run; made = r.made }
one_run who f (happens i (was_sent_away some code) ∷ xs) g those (mid, (done, others, stays), turns) h =
    let r = one_run who mid xs g those turns h in
    record { events = r.events; told = r.told; history = r.history; run = subst (λ (x : HallRecord). HallRuns x h r.events r.told r.history g.hall) stays r.run; made = r.made }
one_run who f (happens i (was_answered some m) ∷ xs) g those (mid, (done, others, at), turns) h =
    let as_one = asks_as i f (happens i (was_answered some m) ∷ xs) g (who i) (those i) (mid, (done, others, at), turns) in
    let once : IsOneStep m.before (who i) m.handed m.after = answers_as some (f.peers i) m.before m.handed m.after (mid.peers i) (who i) as_one done in
    let r = moment_before f.hall mid.hall m at (who i) once who xs g.hall (one_run who mid xs g those turns) h in
    record { events = r.events; told = r.told; history = r.history; run = r.run; made = (r.rest, r.first, r.made) }
one_run who f (happens i (failed m) ∷ xs) g those (mid, (done, others, at), turns) h =
    let as_one = asks_as i f (happens i (failed m) ∷ xs) g (who i) (those i) (mid, (done, others, at), turns) in
    let once : IsOneStep m.before (who i) m.handed m.after = fails_as (f.peers i) m.before m.handed m.after (mid.peers i) (who i) as_one done in
    let r = moment_before f.hall mid.hall m at (who i) once who xs g.hall (one_run who mid xs g those turns) h in
    record { events = r.events; told = r.told; history = r.history; run = r.run; made = (r.rest, r.first, r.made) }

pub are_one_run : (f : ConnectionsRecord) (turns : List Turn) (g : ConnectionsRecord) → Turns f turns g → (who : ℕ → Owner) → ((i : ℕ) → (g.peers i).who ≡ who i) → (h : History)
    → IsOneRun f.hall who turns g.hall h
are_one_run f turns g run who those h = one_run who f turns g those run h
