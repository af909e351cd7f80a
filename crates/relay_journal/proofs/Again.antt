-- The entries of a run, and those that are said again.
use Rattle.std.proofs.Common.{◌≡◌, ℕ, ◌+◌, Bool, true, cond, List, [], ◌∷◌, ◌++◌, Option, Some, None, ◌∙◌, sym, ap, subst}
use Rattle.c960_game.specs.Limits.{LimitNumbers}
use Rattle.relay_core.specs.declared.reply.Reply.{Reply}
use Rattle.relay_core.specs.History.{History, is_accepted}
use Rattle.relay_hall.proofs.lemmas.Sweeping.{IsApart}
use Rattle.relay_hall.specs.declared.handed.Handed.{Handed}
use Rattle.relay_hall.specs.Record.{HallRecord, nobody_yet}
use Rattle.relay_hall.specs.Runs.{HallEvent, Comes, Says, HallTold, Replied, Silent, HallRuns, HallStep, history_after}
use Rattle.relay_journal.specs.declared.entry.Entry.{Entry}
use Rattle.relay_journal.specs.declared.entry.Entry.TheVariants.{Opens, Plays, Ends}
use Rattle.relay_journal.specs.Entries.{Journals, entries_at}
use Rattle.relay_journal.specs.Fitting.{FitsOn}
use Rattle.relay_journal.specs.Kept.{key_of, kept_of, replayed, step_of}
use Rattle.relay_journal.specs.Restarting.{AllAccepted, Leads, comes, said_from, sayer}
use Rattle.relay_journal.proofs.Changes.{KeptRows}
use Rattle.relay_journal.proofs.Fitting.{fits_on, fits_then, nothing_new}
use Rattle.relay_journal.proofs.Steps.{LeadsOn, steps}
use Rattle.relay_journal.proofs.Sweeps.{replayed-append}

run : (k : HallRecord) → IsApart k.floor.boards → (es : List HallEvent) (ts : List HallTold) (js : List Entry) (l : HallRecord)
    → Journals k es ts js l → kept_of l.floor ≡ replayed (kept_of k.floor) js
run k apart [] [] js l (js-is, l-is) = ap (λ (x : HallRecord). kept_of x.floor) l-is ∙ ap (λ (x : List Entry). replayed (kept_of k.floor) x) (sym js-is)
run k apart [] (t ∷ ts) js l j = absurd j
run k apart (e ∷ es) [] js l j = absurd j
run k apart (e ∷ es) (t ∷ ts) js l (mid, rest, step, js-is, others) =
    let leads = steps k apart e t mid step in
    run mid leads.apart es ts rest l others
    ∙ ap (λ (b : KeptRows). replayed b rest) leads.kept
    ∙ sym (replayed-append (kept_of k.floor) (entries_at k e t mid) rest)
    ∙ ap (λ (x : List Entry). replayed (kept_of k.floor) x) (sym js-is)

pub entries_stand : (limits : LimitNumbers) (grace : ℕ) (es : List HallEvent) (ts : List HallTold) (js : List Entry) (k : HallRecord)
    → Journals (nobody_yet limits grace) es ts js k → kept_of k.floor ≡ replayed [] js
entries_stand limits grace es ts js k j = run (nobody_yet limits grace) tt es ts js k j

-- an entry that is said and accepted is made again
one_again : (k : HallRecord) (who : ℕ) (e : Entry) (reply : Reply) (handed : Option Handed) (l : HallRecord) → is_accepted reply ≡ true
    → entries_at k (Says (sayer who e) (step_of e)) (Replied reply handed) l ≡ e ∷ []
one_again k who (Opens name start key) reply handed l ok = ap (λ (t : Bool). cond t (Opens name start key ∷ []) []) ok
one_again k who (Plays name m) reply handed l ok = ap (λ (t : Bool). cond t (Plays name m ∷ []) []) ok
one_again k who (Ends name ending) reply handed l ok = ap (λ (t : Bool). cond t (Ends name ending ∷ []) []) ok

-- the entries behind one are accepted, and lead to the boards of this hall
abbrev Rest : ℕ → List Entry → History → HallRecord → Type 0
Rest who es h l = (k : HallRecord) → IsApart k.floor.boards → (g : History) (ts : List HallTold) → HallRuns k g (said_from who es) ts h l → AllAccepted ts
    → (kept_of l.floor ≡ replayed (kept_of k.floor) es) × FitsOn k.floor es l.floor

module _ (who : ℕ) (e : Entry) (es : List Entry) (h : History) (l : HallRecord) (rest : Rest (who + 1) es h l) where
  said : (k : HallRecord) → IsApart k.floor.boards → (g : History) (ts : List HallTold) → HallRuns k g (Says (sayer who e) (step_of e) ∷ said_from (who + 1) es) ts h l
      → AllAccepted ts → (kept_of l.floor ≡ replayed (kept_of k.floor) (e ∷ es)) × FitsOn k.floor (e ∷ es) l.floor
  said k apart g [] r ok = absurd r
  said k apart g (Silent ∷ ts) (mid, step, others) ok = absurd step
  said k apart g (Replied reply handed ∷ ts) (mid, step, others) (ok, all) =
      let event = Says (sayer who e) (step_of e) in
      let one = one_again k who e reply handed mid ok in
      let leads : LeadsOn k.floor (e ∷ []) mid.floor = subst (λ (js : List Entry). LeadsOn k.floor js mid.floor) one (steps k apart event (Replied reply handed) mid step) in
      let fits : FitsOn k.floor (e ∷ []) mid.floor = subst (λ (js : List Entry). FitsOn k.floor js mid.floor) one (fits_on k apart event (Replied reply handed) mid step) in
      let behind = rest mid leads.apart (history_after k event (Replied reply handed) mid g) ts others all in
      (behind.0 ∙ ap (λ (b : KeptRows). replayed b es) leads.kept, fits_then k.floor mid.floor l.floor (e ∷ []) es fits behind.1)

  came : (key : Option (List ℕ)) (k : HallRecord) → IsApart k.floor.boards → (g : History) (ts : List HallTold)
      → HallRuns k g ((comes key ++ Says (sayer who e) (step_of e) ∷ []) ++ said_from (who + 1) es) ts h l → AllAccepted ts
      → (kept_of l.floor ≡ replayed (kept_of k.floor) (e ∷ es)) × FitsOn k.floor (e ∷ es) l.floor
  came None k apart g ts r ok = said k apart g ts r ok
  came (Some key) k apart g [] r ok = absurd r
  came (Some key) k apart g (Replied reply handed ∷ ts) (mid, step, others) ok = absurd step
  came (Some key) k apart g (Silent ∷ ts) (mid, step, others) ok =
      let leads = steps k apart (Comes key) Silent mid step in
      let behind = said mid leads.apart (history_after k (Comes key) Silent mid g) ts others ok in (
        behind.0 ∙ ap (λ (b : KeptRows). replayed b (e ∷ es)) leads.kept,
        fits_then k.floor mid.floor l.floor [] (e ∷ es) (fits_on k apart (Comes key) Silent mid step) behind.1,
      )

again : (who : ℕ) (es : List Entry) (h : History) (l : HallRecord) → Rest who es h l
again who [] h l k apart g [] (h-is, l-is) ok = (ap (λ (x : HallRecord). kept_of x.floor) l-is, nothing_new k.floor l.floor (ap (λ (x : HallRecord). x.floor) l-is))
again who [] h l k apart g (t ∷ ts) r ok = absurd r
again who (e ∷ es) h l k apart g ts r ok = came who e es h l (again (who + 1) es h l) (key_of e) k apart g ts r ok

pub said_again_stand : (limits : LimitNumbers) (grace who : ℕ) (es : List Entry) (h : History) (k : HallRecord) → Leads (nobody_yet limits grace) h (said_from who es) k
    → kept_of k.floor ≡ replayed [] es
said_again_stand limits grace who es h k leads = (again who es leads.history k (nobody_yet limits grace) tt h leads.told leads.run leads.accepted).0

pub said_again_fit : (limits : LimitNumbers) (grace who : ℕ) (es : List Entry) (h : History) (k : HallRecord) → Leads (nobody_yet limits grace) h (said_from who es) k
    → FitsOn (nobody_yet limits grace).floor es k.floor
said_again_fit limits grace who es h k leads = (again who es leads.history k (nobody_yet limits grace) tt h leads.told leads.run leads.accepted).1
