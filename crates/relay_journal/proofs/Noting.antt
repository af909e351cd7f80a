-- A journal in which is noted what is missing stands for the boards.
use Rattle.std.proofs.Common.{refl, ◌≡◌, ℕ, List, [], ◌∷◌, ◌++◌, ◌∙◌, sym, ap, subst}
use Rattle.chained_lines.specs.Lines.{Line}
use Rattle.c960_game.specs.Limits.{LimitNumbers}
use Rattle.relay_hall.proofs.lemmas.Sweeping.{IsApart}
use Rattle.relay_hall.specs.Record.{FloorRecord, HallRecord, games_of, nobody_yet}
use Rattle.relay_hall.specs.Runs.{HallEvent, HallTold, HallStep, IsReached}
use Rattle.relay_journal.specs.declared.entry.Entry.{Entry}
use Rattle.relay_journal.specs.Bodies.{AllBodies, SaysEntries, first_body}
use Rattle.relay_journal.specs.Differences.{missing}
use Rattle.relay_journal.specs.Fitting.{AllFit, FitsOn}
use Rattle.relay_journal.specs.Kept.{kept_of, replayed}
use Rattle.relay_journal.specs.Restarting.{Leads, said_from}
use Rattle.relay_journal.specs.Standing.{StandFor}
use Rattle.relay_journal.proofs.Again.{said_again_fit, said_again_stand}
use Rattle.relay_journal.proofs.Changes.{KeptRows}
use Rattle.relay_journal.proofs.Compared.{compared, nothing_of_all}
use Rattle.relay_journal.proofs.Fitting.{fit_append, fits_on, nothing_new}
use Rattle.relay_journal.proofs.Going.{missing_lead_on, rows_apart}
use Rattle.relay_journal.proofs.Recovered.{behind_first, same_entries}
use Rattle.relay_journal.proofs.Sweeps.{replayed-append}

pub bodies_append : (ls more : List Line) (es new : List Entry) → AllBodies ls es → AllBodies more new → AllBodies (ls ++ more) (es ++ new)
bodies_append [] more [] new all then = then
bodies_append [] more (e ∷ es) new all then = absurd all
bodies_append (l ∷ ls) more [] new all then = absurd all
bodies_append (l ∷ ls) more (e ∷ es) new all then = (all.0, bodies_append ls more es new all.1 then)

pub first_stands : (limits : LimitNumbers) (grace : ℕ) (l : Line) → l.body ≡ first_body → StandFor (l ∷ []) (nobody_yet limits grace).floor
first_stands limits grace l is = record { first = l; others = []; parts = refl; begins = is; entries = []; said = tt; boards = refl; accepted = refl }

pub said_stand : (limits : LimitNumbers) (grace : ℕ) (l : Line) (ls : List Line) (es : List Entry) (k : HallRecord) → l.body ≡ first_body → AllBodies ls es
    → Leads (nobody_yet limits grace) [] (said_from 0 es) k → StandFor (l ∷ ls) k.floor
said_stand limits grace l ls es k is all leads = record {
  first = l;
  others = ls;
  parts = refl;
  begins = is;
  entries = es;
  said = all;
  boards = said_again_stand limits grace 0 es [] k leads;
  accepted =
      let on = said_again_fit limits grace 0 es [] k leads in
      subst (λ (x : LimitNumbers). AllFit x [] es (games_of k.floor)) (sym on.limits) on.fits;
}

-- entries that lead from some boards to others are said by more lines
pub more_stand : (ls more : List Line) (f g : FloorRecord) (new : List Entry) → replayed (kept_of f) new ≡ kept_of g → FitsOn f new g → StandFor ls f
    → AllBodies more new → StandFor (ls ++ more) g
more_stand ls more f g new leads on was all = record {
  first = was.first;
  others = was.others ++ more;
  parts = ap (λ (xs : List Line). xs ++ more) was.parts;
  begins = was.begins;
  entries = was.entries ++ new;
  said = bodies_append was.others more was.entries new was.said all;
  boards = sym leads ∙ ap (λ (b : KeptRows). replayed b new) was.boards ∙ sym (replayed-append [] was.entries new);
  accepted = subst (λ (x : LimitNumbers). AllFit x [] (was.entries ++ new) (games_of g)) (sym on.limits)
      (fit_append f.limits [] (games_of f) (games_of g) was.entries new was.accepted on.fits);
}

-- what is missing after an event is accepted again
pub missing_fit : (k : HallRecord) → IsApart k.floor.boards → (e : HallEvent) (t : HallTold) (l : HallRecord) → HallStep k e t l
    → FitsOn k.floor (missing (kept_of k.floor) (kept_of l.floor)) l.floor
missing_fit k apart e t l step = subst (λ (js : List Entry). FitsOn k.floor js l.floor) (sym (compared k e t l step)) (fits_on k apart e t l step)

pub nothing_fits : (f : FloorRecord) → FitsOn f (missing (kept_of f) (kept_of f)) f
nothing_fits f = subst (λ (js : List Entry). FitsOn f js f) (sym (nothing_of_all (kept_of f))) (nothing_new f f refl)

pub noted_stand : (ls more : List Line) (k : HallRecord) (e : HallEvent) (t : HallTold) (l : HallRecord) → IsReached k → HallStep k e t l → StandFor ls k.floor
    → AllBodies more (missing (kept_of k.floor) (kept_of l.floor)) → StandFor (ls ++ more) l.floor
noted_stand ls more k e t l reached step was all =
    more_stand ls more k.floor l.floor (missing (kept_of k.floor) (kept_of l.floor)) (missing_lead_on k e t l reached step)
    (missing_fit k (rows_apart k reached) e t l step) was all

-- what lines say that stand for boards fits
pub all_fit : (ls : List Line) (f : FloorRecord) (es : List Entry) → StandFor ls f → SaysEntries ls es → AllFit f.limits [] es (games_of f)
all_fit ls f es stand says =
    let said = subst (λ (xs : List Line). SaysEntries xs es) stand.parts says in
    subst (λ (js : List Entry). AllFit f.limits [] js (games_of f)) (same_entries stand.others stand.entries es stand.said said.1) stand.accepted

-- lines that begin with some that stand for boards say entries that lead to these, and on from there
pub come_back : (ls more : List Line) (f : FloorRecord) (got : List Entry) → StandFor ls f → SaysEntries (ls ++ more) got
    → (later : List Entry) × (replayed [] got ≡ replayed (kept_of f) later)
come_back ls more f got stand says =
    let said = subst (λ (xs : List Line). SaysEntries (xs ++ more) got) stand.parts says in
    let rest = behind_first stand.others more stand.entries got stand.said said.1 in (
      rest.0,
      ap (λ (js : List Entry). replayed [] js) rest.1 ∙ replayed-append [] stand.entries rest.0 ∙ ap (λ (b : KeptRows). replayed b rest.0) (sym stand.boards),
    )
