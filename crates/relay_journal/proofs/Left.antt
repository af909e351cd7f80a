-- After a restart nobody is there, and nobody goes who has said nothing again.
use Rattle.std.proofs.Common.{refl, ◌≡◌, ℕ, ◌+◌, ◌-◌, ◌≤◌, Bool, true, false, cond, List, [], ◌∷◌, ◌++◌, length, Option, Some, None, ◌∙◌, ap, arith, append_assoc}
use Rattle.relay_core.specs.declared.step.Step.{Step}
use Rattle.c960_game.specs.Limits.{LimitNumbers}
use Rattle.relay_hall.specs.declared.owner.Owner.{Owner}
use Rattle.relay_hall.specs.Keys.{is_owner}
use Rattle.relay_hall.specs.Record.{HallRecord}
use Rattle.relay_hall.specs.Restart.{IsRestart}
use Rattle.relay_hall.specs.Runs.{HallEvent, Says, Time, count_after, counts_after, has_gone}
use Rattle.relay_journal.specs.declared.entry.Entry.{Entry}
use Rattle.relay_journal.specs.declared.entry.Entry.TheVariants.{Opens, Plays, Ends}
use Rattle.relay_journal.specs.Kept.{key_of, step_of}
use Rattle.relay_journal.specs.Restarting.{IsRestarted, comes, goes, gone_from, restart, said_again, said_from, sayer}
use Rattle.relay_journal.proofs.Orderly.{restart_orderly, restart_while_there}

-- ---- As many have gone as came.

-- one who comes with this key, if it is the other
abbrev one : List ℕ → Option (List ℕ) → ℕ
one q key = cond (is_owner (Some q) key) 1 0

-- how many of these entries open boards with a key
abbrev opened : List ℕ → List Entry → ℕ
opened q [] = 0
opened q (e ∷ es) = one q (key_of e) + opened q es

counts_append : (count : List ℕ → ℕ) (es fs : List HallEvent) → counts_after count (es ++ fs) ≡ counts_after (counts_after count es) fs
counts_append count [] fs = refl
counts_append count (e ∷ es) fs = counts_append (count_after count e) es fs

more : (t : Bool) (n : ℕ) → cond t (n + 1) n ≡ n + cond t 1 0
more true n = refl
more false n = omega arith

fewer : (t : Bool) (n : ℕ) → cond t (n - 1) n ≡ n - cond t 1 0
fewer true n = refl
fewer false n = omega arith

one_comes : (count : List ℕ → ℕ) (key : Option (List ℕ)) (speaker : Owner) (step : Step) (q : List ℕ)
    → counts_after count (comes key ++ Says speaker step ∷ []) q ≡ count q + one q key
one_comes count None speaker step q = omega arith
one_comes count (Some key) speaker step q = more (is_owner (Some q) (Some key)) (count q)

one_goes : (count : List ℕ → ℕ) (who : ℕ) (e : Entry) (q : List ℕ) → counts_after count (goes who e) q ≡ count q - one q (key_of e)
one_goes count who (Opens name start key) q = fewer (is_owner (Some q) key) (count q)
one_goes count who (Plays name m) q = omega arith
one_goes count who (Ends name ending) q = omega arith

all_come : (count : List ℕ → ℕ) (who : ℕ) (es : List Entry) (q : List ℕ) → counts_after count (said_from who es) q ≡ count q + opened q es
all_come count who [] q = omega arith
all_come count who (e ∷ es) q =
    let first = ap (λ (c : List ℕ → ℕ). c q) (counts_append count (said_again who e) (said_from (who + 1) es)) in
    let came = one_comes count (key_of e) (sayer who e) (step_of e) q in
    let rest = all_come (counts_after count (said_again who e)) (who + 1) es q in
    first ∙ rest ∙ ap (λ (n : ℕ). n + opened q es) came ∙ omega arith

all_go : (count : List ℕ → ℕ) (who : ℕ) (es : List Entry) (q : List ℕ) → counts_after count (gone_from who es) q ≡ count q - opened q es
all_go count who [] q = omega arith
all_go count who (e ∷ es) q =
    let first = ap (λ (c : List ℕ → ℕ). c q) (counts_append count (goes who e) (gone_from (who + 1) es)) in
    let gone = one_goes count who e q in
    let rest = all_go (counts_after count (goes who e)) (who + 1) es q in
    first ∙ rest ∙ ap (λ (n : ℕ). n - opened q es) gone ∙ omega arith

nobody_left : (now : ℕ) (es : List Entry) (q : List ℕ) → counts_after (λ key. 0) (restart now es) q ≡ 0
nobody_left now es q =
    let there = counts_after (λ key. 0) (said_from 0 es) in
    let came : there q ≡ 0 + opened q es = all_come (λ key. 0) 0 es q in
    let left : counts_after there (gone_from 0 es) q ≡ there q - opened q es = all_go there 0 es q in
    ap (λ (c : List ℕ → ℕ). c q) (counts_append (λ key. 0) (said_from 0 es) (Time now ∷ gone_from 0 es)) ∙ left ∙ omega (arith, came)

-- ---- Nobody else has gone.

none_gone : (i who : ℕ) (es : List Entry) → who + length es ≤ i → has_gone i (gone_from who es) ≡ false
none_gone i who [] within = refl
none_gone i who (Opens name start None ∷ es) within =
    let rest = none_gone i (who + 1) es (omega (arith, within)) in
    grind (arith, rest, within)
none_gone i who (Opens name start (Some key) ∷ es) within = none_gone i (who + 1) es (omega (arith, within))
none_gone i who (Plays name m ∷ es) within = none_gone i (who + 1) es (omega (arith, within))
none_gone i who (Ends name ending ∷ es) within = none_gone i (who + 1) es (omega (arith, within))

one_said : (i : ℕ) (key : Option (List ℕ)) (speaker : Owner) (step : Step) (events : List HallEvent) → has_gone i events ≡ false
    → has_gone i ((comes key ++ Says speaker step ∷ []) ++ events) ≡ false
one_said i None speaker step events rest = rest
one_said i (Some key) speaker step events rest = rest

none_said : (i who : ℕ) (es : List Entry) (events : List HallEvent) → has_gone i events ≡ false → has_gone i (said_from who es ++ events) ≡ false
none_said i who [] events rest = rest
none_said i who (e ∷ es) events rest =
    ap (λ (evs : List HallEvent). has_gone i evs) (append_assoc (said_again who e) (said_from (who + 1) es) events)
    ∙ one_said i (key_of e) (sayer who e) (step_of e) (said_from (who + 1) es ++ events) (none_said i (who + 1) es events rest)

none_else : (now : ℕ) (es : List Entry) (i : ℕ) → length es ≤ i → has_gone i (restart now es) ≡ false
none_else now es i within = none_said i 0 es (Time now ∷ gone_from 0 es) (none_gone i 0 es (omega (arith, within)))

pub is_restart : (limits : LimitNumbers) (grace now : ℕ) (es : List Entry) (k : HallRecord) → IsRestarted limits grace now es k → IsRestart limits grace (length es) k
is_restart limits grace now es k leads = record {
  events = restart now es;
  told = leads.told;
  history = leads.history;
  run = leads.run;
  orderly = restart_orderly now es;
  there = restart_while_there now es;
  all_gone = nobody_left now es;
  fresh = none_else now es;
}
