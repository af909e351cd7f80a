-- A restart is orderly: nobody says anything who has gone, and whoever says something with a key is there.
use Rattle.std.proofs.Common.{refl, ◌≡◌, ℕ, ◌+◌, ◌<◌, Bool, true, false, cond, List, [], ◌∷◌, ◌++◌, Option, Some, None, ◌∙◌, sym, ap, subst, arith, append_assoc}
use Rattle.std.proofs.lemmas.Cmp.{nat_list_eq_equiv}
use Rattle.std.proofs.lemmas.Option.{same_Some}
use Rattle.relay_core.specs.declared.step.Step.{Step}
use Rattle.relay_hall.specs.declared.owner.Owner.{Owner}
use Rattle.relay_hall.specs.Runs.{HallEvent, Comes, Says, Goes, Time, AllSayWhileThere, IsOrderly, SaysNoMore, count_after}
use Rattle.relay_hall.specs.Keys.{same_key}
use Rattle.relay_journal.specs.declared.entry.Entry.{Entry}
use Rattle.relay_journal.specs.declared.entry.Entry.TheVariants.{Opens, Plays, Ends}
use Rattle.relay_journal.specs.Kept.{key_of, step_of}
use Rattle.relay_journal.specs.Restarting.{comes, gone_from, restart, said_again, said_from, sayer}

-- ---- Nobody speaks who has gone.

none_says : (who from : ℕ) (es : List Entry) → SaysNoMore who (gone_from from es)
none_says who from [] = tt
none_says who from (Opens name start key ∷ es) = (refl, none_says who (from + 1) es)
none_says who from (Plays name m ∷ es) = none_says who (from + 1) es
none_says who from (Ends name ending ∷ es) = none_says who (from + 1) es

all_go : (from : ℕ) (es : List Entry) → IsOrderly (gone_from from es)
all_go from [] = tt
all_go from (Opens name start key ∷ es) = (λ who is. none_says who (from + 1) es, all_go (from + 1) es)
all_go from (Plays name m ∷ es) = all_go (from + 1) es
all_go from (Ends name ending ∷ es) = all_go (from + 1) es

nobody_goes : false ≡ true → ⊥
nobody_goes e = grind (arith, e)

-- before others, one comes and says something, and nobody goes
said_first : (key : Option (List ℕ)) (speaker : Owner) (step : Step) (events : List HallEvent) → IsOrderly events → IsOrderly ((comes key ++ Says speaker step ∷ []) ++ events)
said_first None speaker step events rest = (λ who is. absurd (nobody_goes is), rest)
said_first (Some key) speaker step events rest = (λ who is. absurd (nobody_goes is), (λ who is. absurd (nobody_goes is), rest))

all_said : (from : ℕ) (es : List Entry) (events : List HallEvent) → IsOrderly events → IsOrderly (said_from from es ++ events)
all_said from [] events rest = rest
all_said from (e ∷ es) events rest =
    subst IsOrderly (sym (append_assoc (said_again from e) (said_from (from + 1) es) events))
    (said_first (key_of e) (sayer from e) (step_of e) (said_from (from + 1) es ++ events) (all_said (from + 1) es events rest))

pub restart_orderly : (now : ℕ) (es : List Entry) → IsOrderly (restart now es)
restart_orderly now es = all_said 0 es (Time now ∷ gone_from 0 es) (λ who is. absurd (nobody_goes is), all_go 0 es)

-- ---- Whoever speaks is there.

going : (count : List ℕ → ℕ) (from : ℕ) (es : List Entry) → AllSayWhileThere count (gone_from from es)
going count from [] = tt
going count from (Opens name start key ∷ es) = (tt, going (count_after count (Goes (record { key = key; opener = from }))) (from + 1) es)
going count from (Plays name m ∷ es) = going count (from + 1) es
going count from (Ends name ending ∷ es) = going count (from + 1) es

-- for any counts before them
abbrev Anyhow : List HallEvent → Type 0
Anyhow events = (count : List ℕ → ℕ) → AllSayWhileThere count events

no_key : (key : List ℕ) → None ≡ Some key → ⊥
no_key key e = grind (arith, e)

there_first : (key : Option (List ℕ)) (speaker : Owner) (step : Step) (events : List HallEvent) → speaker.key ≡ key → Anyhow events
    → Anyhow ((comes key ++ Says speaker step ∷ []) ++ events)
there_first None speaker step events is rest = λ count. (λ q has. absurd (no_key q (sym is ∙ has)), rest (count_after count (Says speaker step)))
there_first (Some key) speaker step events is rest = λ count.
    (tt, (λ q has. counted count q (same_Some key q (sym is ∙ has)), rest (count_after (count_after count (Comes key)) (Says speaker step))))
  where
    counted : (count : List ℕ → ℕ) (q : List ℕ) → key ≡ q → 0 < count_after count (Comes key) q
    counted count q same =
        let one : cond (same_key q key) (count q + 1) (count q) ≡ count q + 1 =
        ap (λ (t : Bool). cond t (count q + 1) (count q)) (ap (λ (k : List ℕ). same_key q k) same ∙ nat_list_eq_equiv.refl q) in
        omega (arith, one)

all_there : (from : ℕ) (es : List Entry) (events : List HallEvent) → Anyhow events → Anyhow (said_from from es ++ events)
all_there from [] events rest = rest
all_there from (e ∷ es) events rest =
    subst Anyhow (sym (append_assoc (said_again from e) (said_from (from + 1) es) events))
    (there_first (key_of e) (sayer from e) (step_of e) (said_from (from + 1) es ++ events) refl (all_there (from + 1) es events rest))

pub restart_while_there : (now : ℕ) (es : List Entry) → AllSayWhileThere (λ key. 0) (restart now es)
restart_while_there now es = all_there 0 es (Time now ∷ gone_from 0 es) (λ count. (tt, going (count_after count (Time now)) 0 es)) (λ key. 0)
