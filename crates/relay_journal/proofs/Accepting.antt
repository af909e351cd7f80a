-- What a hall has accepted, some run of one of the same limits accepts again.
use Rattle.std.proofs.Common.{refl, ◌≡◌, ℕ, suc, ◌+◌, ◌-◌, ◌^◌, ◌<◌, ◌≤◌, nat_lt, Bool, true, false, cond, is_some, List, [], ◌∷◌, ◌++◌, length, take, Option, None, Some, Result, Ok, inl, ◌∙◌, sym, ap, subst, arith, length-append}
use Rattle.std.specs.Map.{lookup}
use Rattle.atomic_table.specs.Seated.{TableId}
use Rattle.std.proofs.lemmas.Cmp.{nat_list_eq_equiv}
use Rattle.c960_game.specs.declared.outcome.Outcome.{Outcome}
use Rattle.c960_game.specs.declared.refusal.Refusal.{Refusal}
use Rattle.c960_game.specs.Limits.{LimitNumbers}
use Rattle.c960_game.specs.Record.{opened, with_move}
use Rattle.relay_core.proofs.lemmas.Lists.{shown-push}
use Rattle.relay_core.proofs.lemmas.Refusals.{opened_where}
use Rattle.relay_core.specs.BoardAnswers.{end_answer_at, ended_by, play_answer_at}
use Rattle.relay_core.specs.declared.reply.Reply.TheVariants.{Opened}
use Rattle.relay_core.specs.declared.step.Step.TheVariants.{Open, Submit, End}
use Rattle.relay_core.specs.History.{History, is_accepted}
use Rattle.relay_core.specs.Name.{same_name}
use Rattle.relay_core.specs.Refusals.{first_refusal, open_grounds}
use Rattle.relay_hall.specs.declared.holders.Holder.{Holder}
use Rattle.relay_hall.specs.declared.owner.Owner.{Owner}
use Rattle.relay_hall.specs.declared.presence.Presence.{Presence}
use Rattle.relay_hall.specs.declared.presence.Presence.TheVariants.{Here, Waits}
use Rattle.relay_hall.specs.Holders.{presence_of, with_newcomer}
use Rattle.relay_hall.specs.Keys.{same_key}
use Rattle.relay_hall.specs.Record.{HallBoard, HallRecord, games_of, nobody_yet}
use Rattle.relay_hall.specs.Runs.{HallEvent, Comes, Says, HallTold}
use Rattle.relay_hall.specs.Steps.{OpensAs, after_end, after_submit, answer_to_end, answer_to_open, answer_to_submit, change_value, new_board, reply_to_end, reply_to_play, with_board}
use Rattle.relay_hall.specs.Times.{Came}
use Rattle.relay_journal.specs.declared.entry.Entry.{Entry}
use Rattle.relay_journal.specs.declared.entry.Entry.TheVariants.{Opens, Plays, Ends}
use Rattle.relay_journal.specs.Entries.{Journals}
use Rattle.relay_journal.specs.Fitting.{AllFit, Games}
use Rattle.relay_journal.specs.Restarting.{Leads, comes, said_again, said_from, sayer}
use Rattle.relay_journal.proofs.Fitting.{all_of_run, fit_front, games_changed}
use Rattle.relay_journal.proofs.Leading.{leads_nowhere, leads_on, leads_said, leads_silent, leads_then}

-- ---- There is room to count those who come.

-- at most so many connections have this presence, and nothing waits
abbrev IsFew : ℕ → Option Presence → Type 0
IsFew m None = Unit {0}
IsFew m (Some (Here n)) = n ≤ m
IsFew m (Some (Waits until)) = ⊥

abbrev Few : List Holder → ℕ → Type 0
Few keys m = (q : List ℕ) → IsFew m (presence_of q keys)

fewer : (p : Option Presence) (m : ℕ) → IsFew m p → IsFew (m + 1) p
fewer None m few = tt
fewer (Some (Here n)) m few = omega (arith, few)
fewer (Some (Waits until)) m few = absurd few

abbrev one_more_of : Option Presence → ℕ
one_more_of None = 1
one_more_of (Some (Here n)) = n + 1
one_more_of (Some (Waits until)) = 1

below : (n m most : ℕ) → n ≤ m → m < most → nat_lt n most ≡ true
below n m most le lt = grind (arith, le, lt)

newcomer : (p : Option Presence) (m : ℕ) → IsFew m p → m < 2 ^ 32 - 1 → (with_newcomer p ≡ Some (Here (one_more_of p))) × (one_more_of p ≤ m + 1)
newcomer None m few lt = (refl, omega arith)
newcomer (Some (Here n)) m few lt = (ap (λ (t : Bool). cond t (Some (Here (n + 1))) None) (below n m (2 ^ 32 - 1) few lt), omega (arith, few))
newcomer (Some (Waits until)) m few lt = absurd few

abbrev with_one : List ℕ → List Holder → List Holder
with_one key keys = record { key = key; presence = Here (one_more_of (presence_of key keys)) } ∷ keys

module _ (r : HallRecord) (key : List ℕ) (m : ℕ) (few : Few r.keys m) (lt : m < 2 ^ 32 - 1) where
  came : Came r key (record r { keys = with_one key r.keys })
  came =
      let new = newcomer (presence_of key r.keys) m (few key) lt in
      let there : presence_of key (with_one key r.keys) ≡ Some (Here (one_more_of (presence_of key r.keys))) =
      ap (λ (t : Bool). cond t (Some (Here (one_more_of (presence_of key r.keys)))) (presence_of key r.keys)) (nat_list_eq_equiv.refl key) in (
        ap (λ (p : Option Presence). is_some p) there,
        there ∙ sym new.0,
        (λ other apart. ap (λ (t : Bool). cond t (Some (Here (one_more_of (presence_of key r.keys)))) (presence_of other r.keys)) apart),
        refl,
      )

  few_then : Few (with_one key r.keys) (m + 1)
  few_then q = by (same_key q key)
    where
      by : (t : Bool) → IsFew (m + 1) (cond t (Some (Here (one_more_of (presence_of key r.keys)))) (presence_of q r.keys))
      by true = (newcomer (presence_of key r.keys) m (few key) lt).1
      by false = fewer (presence_of q r.keys) m (few q)

comes_to : (r : HallRecord) (key : Option (List ℕ)) (m : ℕ) → Few r.keys m → m < 2 ^ 32 - 1
    → (keys : List Holder) × ((h : History) → Leads r h (comes key) (record r { keys = keys })) × Few keys (m + 1)
comes_to r None m few lt = (r.keys, (λ h. leads_nowhere r h), (λ q. fewer (presence_of q r.keys) m (few q)))
comes_to r (Some key) m few lt =
    (with_one key r.keys, (λ h. leads_silent r h (Comes key) (record r { keys = with_one key r.keys }) (came r key m few lt)), few_then r key m few lt)

-- ---- What fits is accepted.

-- a run that accepts them
record Accepts (r : HallRecord) (g : History) (who : ℕ) (js : List Entry) : Type 0 where
  hall : HallRecord
  leads : Leads r g (said_from who js) hall

first_then : (r mid : HallRecord) (g : History) (who : ℕ) (j : Entry) (js : List Entry) (first : Leads r g (said_again who j) mid)
    → Accepts mid first.history (who + 1) js → Accepts r g who (j ∷ js)
first_then r mid g who j js first rest = record {
  hall = rest.hall;
  leads = leads_on r g (said_again who j) (said_from (who + 1) js) mid rest.hall first rest.leads;
}

length_changed : {V : Type 0} (n : List ℕ) (f : V → V) (es : List (List ℕ × V)) → length (change_value (same_name n) f es) ≡ length es
length_changed n f [] = refl
length_changed n f (e ∷ es) = by (same_name n e.0) (length_changed n f es)
  where
    by : (t : Bool) → length (change_value (same_name n) f es) ≡ length es → length (cond t ((e.0, f e.1) ∷ es) (e ∷ change_value (same_name n) f es)) ≡ length (e ∷ es)
    by true rest = refl
    by false rest = ap suc rest

-- some table: any will do
a_table : TableId
a_table = record { words = 0; slots = 0; views_name = 0; atom = 0; block = 0; offset = 0; slot_names = [] }

accepts : (limits : LimitNumbers) → limits.boards ≤ 2 ^ 32 - 1 → (js : List Entry) (gs hs : Games) → AllFit limits gs js hs → (r : HallRecord) → games_of r.floor ≡ gs
    → r.floor.limits ≡ limits → Few r.keys (length gs) → (g : History) (who : ℕ) → Accepts r g who js
accepts limits small [] gs hs fit r games same few g who = record { hall = r; leads = leads_nowhere r g }
accepts limits small (Opens name start key ∷ js) gs hs (mid, (ok, mid-is), rest) r games same few g who =
    let room = (opened_where (is_some (lookup (same_name name) gs)) start (length gs) limits.boards tt (sym ok)).2 in
    let come = comes_to r key (length gs) few (omega (arith, room, small)) in
    let r0 : HallRecord = record r { keys = come.0 } in
    let speaker : Owner = record { key = key; opener = who } in
    let f = with_board r.floor name (new_board r.floor a_table speaker start) in
    let r1 : HallRecord = record r0 { floor = f } in
    let answer : answer_to_open r.floor name start ≡ Ok tt =
    ap (λ (x : Games). first_refusal (open_grounds (is_some (lookup (same_name name) x)) start (length x) r.floor.limits.boards)) games
    ∙ ap (λ (x : LimitNumbers). first_refusal (open_grounds (is_some (lookup (same_name name) gs)) start (length gs) x.boards)) same ∙ ok in
    let made : OpensAs r.floor speaker name start (answer_to_open r.floor name start) Opened f =
    subst (λ (a : Result Unit Refusal). OpensAs r.floor speaker name start a Opened f) (sym answer) (inl (a_table, refl, refl)) in
    let first : Leads r g (said_again who (Opens name start key)) r1 =
    leads_then r g (comes key) (Says speaker (Open name start) ∷ []) r0 r1 (come.1 g)
    (λ h. leads_said r0 h speaker (Open name start) Opened None r1 ((made, refl), refl) refl) in
    let games1 : games_of f ≡ mid =
    shown-push (λ (x : HallBoard). x.game) r.floor.boards name (new_board r.floor a_table speaker start)
    ∙ ap (λ (x : Games). x ++ (name, opened start r.floor.limits.plies) ∷ []) games
    ∙ ap (λ (x : LimitNumbers). gs ++ (name, opened start x.plies) ∷ []) same ∙ sym mid-is in
    let size : length mid ≡ length gs + 1 = ap length mid-is ∙ length-append gs ((name, opened start limits.plies) ∷ []) in
    first_then r r1 g who (Opens name start key) js first
    (accepts limits small js mid hs rest r1 games1 same (subst (λ (n : ℕ). Few come.0 n) (sym size) come.2) first.history (who + 1))
accepts limits small (Plays name m ∷ js) gs hs (mid, (x, ok, mid-is), rest) r games same few g who =
    let a = answer_to_submit r.floor name m in
    let reply = reply_to_play a in
    let f = after_submit r.floor name m a in
    let r1 : HallRecord = record r { floor = f } in
    let answer : a ≡ Ok x = ap (λ (y : Games). play_answer_at m (lookup (same_name name) y)) games ∙ ok in
    let first : Leads r g (said_again who (Plays name m)) r1 =
    leads_said r g (sayer who (Plays name m)) (Submit name m) reply None r1 ((refl, refl, refl), refl)
    (ap (λ (y : Result (ℕ × Option Outcome) Refusal). is_accepted (reply_to_play y)) answer) in
    let games1 : games_of f ≡ mid =
    ap (λ (y : Result (ℕ × Option Outcome) Refusal). games_of (after_submit r.floor name m y)) answer
    ∙ games_changed name (λ z. with_move z m) r.floor.boards ∙ ap (λ (y : Games). change_value (same_name name) (λ z. with_move z m) y) games ∙ sym mid-is in
    let limits1 : f.limits ≡ limits = ap (λ (y : Result (ℕ × Option Outcome) Refusal). (after_submit r.floor name m y).limits) answer ∙ same in
    let size : length mid ≡ length gs = ap length mid-is ∙ length_changed name (λ z. with_move z m) gs in
    first_then r r1 g who (Plays name m) js first
    (accepts limits small js mid hs rest r1 games1 limits1 (subst (λ (n : ℕ). Few r.keys n) (sym size) few) first.history (who + 1))
accepts limits small (Ends name ending ∷ js) gs hs (mid, (o, ok, mid-is), rest) r games same few g who =
    let a = answer_to_end r.floor name ending in
    let reply = reply_to_end a in
    let f = after_end r.floor name ending a in
    let r1 : HallRecord = record r { floor = f } in
    let answer : a ≡ Ok o = ap (λ (y : Games). end_answer_at ending (lookup (same_name name) y)) games ∙ ok in
    let first : Leads r g (said_again who (Ends name ending)) r1 =
    leads_said r g (sayer who (Ends name ending)) (End name ending) reply None r1 ((refl, refl, refl), refl)
    (ap (λ (y : Result Outcome Refusal). is_accepted (reply_to_end y)) answer) in
    let games1 : games_of f ≡ mid =
    ap (λ (y : Result Outcome Refusal). games_of (after_end r.floor name ending y)) answer
    ∙ games_changed name (ended_by ending) r.floor.boards ∙ ap (λ (y : Games). change_value (same_name name) (ended_by ending) y) games ∙ sym mid-is in
    let limits1 : f.limits ≡ limits = ap (λ (y : Result Outcome Refusal). (after_end r.floor name ending y).limits) answer ∙ same in
    let size : length mid ≡ length gs = ap length mid-is ∙ length_changed name (ended_by ending) gs in
    first_then r r1 g who (Ends name ending) js first
    (accepts limits small js mid hs rest r1 games1 limits1 (subst (λ (n : ℕ). Few r.keys n) (sym size) few) first.history (who + 1))

-- what fits is accepted from nobody on, and so are the first of it
pub fit_again : (limits : LimitNumbers) (grace : ℕ) (js : List Entry) (hs : Games) → limits.boards ≤ 2 ^ 32 - 1 → AllFit limits [] js hs → (n : ℕ)
    → (l : HallRecord) × Leads (nobody_yet limits grace) [] (said_from 0 (take n js)) l
fit_again limits grace js hs small all-fit n =
    let fit = fit_front limits n js [] hs all-fit in
    let all = accepts limits small (take n js) [] fit.0 fit.1 (nobody_yet limits grace) refl refl (λ q. tt) [] 0 in
    (all.hall, all.leads)

pub accepted_again : (limits : LimitNumbers) (grace : ℕ) (es : List HallEvent) (ts : List HallTold) (js : List Entry) (k : HallRecord)
    → limits.boards ≤ 2 ^ 32 - 1 → Journals (nobody_yet limits grace) es ts js k → (n : ℕ) → (l : HallRecord) × Leads (nobody_yet limits grace) [] (said_from 0 (take n js)) l
accepted_again limits grace es ts js k small j n =
    fit_again limits grace js (games_of k.floor) small (all_of_run (nobody_yet limits grace) tt es ts js k j) n
