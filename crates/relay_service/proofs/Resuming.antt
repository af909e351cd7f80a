-- A hall that was made again is what the turns of its restart make of an empty one.
use Rattle.std.proofs.Common.{◌≡◌, ℕ, List, [], ◌∷◌, length, Bool, refl, sym, ap, subst}
use Rattle.std.proofs.lemmas.Option.{none-some}
use Rattle.c960_game.specs.Limits.{LimitNumbers}
use Rattle.relay_core.specs.History.{History}
use Rattle.relay_hall.specs.Record.{HallRecord, nobody_yet}
use Rattle.relay_hall.specs.Restart.{IsRestart}
use Rattle.relay_hall.specs.Runs.{HallEvent, HallRuns, HallTold, history_after}
use Rattle.relay_service.specs.Calling.Answering.{OperatorRecord, newcomer}
use Rattle.relay_service.specs.Calling.Connections.{Turn, Turns, deeds_of}
use Rattle.relay_service.specs.Inner.{IsLedTo, IsOrdered}
use Rattle.relay_service.specs.Record.{ServiceRecord}
use Rattle.relay_service.specs.Resumed.{AreOfRestart, passing, resumed}
use Rattle.relay_service.specs.Rights.{AreRightful}
use Rattle.relay_service.specs.Runs.{AreMadeBy}
use Rattle.relay_service.proofs.Keeping.{IsKept}

-- ---- The events of a run, as turns.

-- no connection does anything
turns_pass : (peers : ℕ → OperatorRecord) (k : HallRecord) (h : History) (es : List HallEvent) (ts : List HallTold) (g : History) (l : HallRecord) → HallRuns k h es ts g l
    → Turns (record { hall = k; peers = peers }) (passing es ts) (record { hall = l; peers = peers })
turns_pass peers k h [] [] g l (g-is, l-is) = ap (λ (x : HallRecord). record { hall = x; peers = peers }) l-is
turns_pass peers k h [] (t ∷ ts) g l r = absurd r
turns_pass peers k h (e ∷ es) [] g l r = absurd r
turns_pass peers k h (e ∷ es) (t ∷ ts) g l (mid, step, r) =
    (record { hall = mid; peers = peers }, (step, refl), turns_pass peers mid (history_after k e t mid h) es ts g l r)

no_deeds : (i : ℕ) (es : List HallEvent) (ts : List HallTold) → deeds_of i (passing es ts) ≡ []
no_deeds i [] ts = refl
no_deeds i (e ∷ es) [] = refl
no_deeds i (e ∷ es) (t ∷ ts) = no_deeds i es ts

made_by_passing : (k : HallRecord) (h : History) (es : List HallEvent) (ts : List HallTold) (g : History) (l : HallRecord) → HallRuns k h es ts g l → AreMadeBy (passing es ts) es
made_by_passing k h [] [] g l r = refl
made_by_passing k h [] (t ∷ ts) g l r = absurd r
made_by_passing k h (e ∷ es) [] g l r = absurd r
made_by_passing k h (e ∷ es) (t ∷ ts) g l (mid, step, r) = (es, refl, made_by_passing mid (history_after k e t mid h) es ts g l r)

-- none of them needs a right
no_rights : (k : HallRecord) (h : History) (es : List HallEvent) (ts : List HallTold) (g : History) (l : HallRecord) (r : HallRuns k h es ts g l)
    → AreRightful (length (passing es ts)) k h es ts g l r
no_rights k h [] [] g l r = tt
no_rights k h [] (t ∷ ts) g l r = absurd r
no_rights k h (e ∷ es) [] g l r = absurd r
no_rights k h (e ∷ es) (t ∷ ts) g l (mid, step, r) = no_rights mid (history_after k e t mid h) es ts g l r

-- ---- What is kept true of the service.

module _ (limits : LimitNumbers) (grace next : ℕ) (takes_keys : Bool) (hall : HallRecord) (restart : IsRestart limits grace next hall) where
  abbrev made_again : ServiceRecord
  made_again = resumed limits grace next takes_keys hall (passing restart.events restart.told)

  led_again : IsLedTo made_again
  led_again = record {
    peers = λ i. newcomer i takes_keys;
    run = turns_pass (λ i. newcomer i takes_keys) (nobody_yet limits grace) [] restart.events restart.told restart.history hall restart.run;
    there = λ i c at. absurd (none-some c at);
    known = λ i c at. absurd (none-some c at);
    yet = λ i more. refl;
    unused = λ i more. no_deeds i restart.events restart.told;
  }

  ordered_again : IsOrdered made_again
  ordered_again = record {
    book = record {
      events = restart.events;
      told = restart.told;
      history = restart.history;
      run = restart.run;
      made = made_by_passing (nobody_yet limits grace) [] restart.events restart.told restart.history hall restart.run;
      orderly = restart.orderly;
      there = restart.there;
      rightful = no_rights (nobody_yet limits grace) [] restart.events restart.told restart.history hall restart.run;
    };
    fresh = restart.fresh;
    here = [];
    counted = restart.all_gone;
    seated = λ i who at. absurd (none-some who at);
    coming = λ i c at. absurd (none-some c at);
    opened = λ i c at. absurd (none-some c at);
  }

  kept_again : IsKept made_again
  kept_again = record { led = led_again; ordered = ordered_again; joined = λ i c at. absurd (none-some c at) }

pub kept_resumed : (limits : LimitNumbers) (grace next : ℕ) (takes_keys : Bool) (hall : HallRecord) (turns : List Turn) → AreOfRestart limits grace next hall turns
    → IsKept (resumed limits grace next takes_keys hall turns)
kept_resumed limits grace next takes_keys hall turns (restart, are) =
    subst (λ (xs : List Turn). IsKept (resumed limits grace next takes_keys hall xs)) (sym are) (kept_again limits grace next takes_keys hall restart)
