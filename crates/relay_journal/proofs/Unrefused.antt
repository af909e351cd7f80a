-- What fits is never refused when it is said again.
use Rattle.std.proofs.Common.{refl, ◌≡◌, ℕ, zero, suc, List, [], ◌∷◌, take, Option, None, Some, Result, Ok, inl, inr, ◌∙◌, sym, ap, subst, arith}
use Rattle.std.specs.Prelude.{◌≢◌, slice_get}
use Rattle.std.proofs.lemmas.Option.{same_Some}
use Rattle.c960_game.specs.declared.outcome.Outcome.{Outcome}
use Rattle.c960_game.specs.declared.refusal.Refusal.{Refusal}
use Rattle.c960_game.specs.declared.refusal.Refusal.TheVariants.{OutOfMemory}
use Rattle.c960_game.specs.Limits.{LimitNumbers}
use Rattle.relay_core.specs.declared.reply.Reply.TheVariants.{Opened, Refused}
use Rattle.relay_core.specs.History.{History}
use Rattle.relay_hall.specs.declared.handed.Handed.{Handed}
use Rattle.relay_hall.specs.Record.{FloorRecord, HallRecord, games_of, nobody_yet}
use Rattle.relay_hall.specs.Runs.{Comes, HallRuns, HallTold, Replied, Silent}
use Rattle.relay_hall.specs.Steps.{Makes, OpensAs, reply_to_end, reply_to_play}
use Rattle.relay_journal.specs.declared.entry.Entry.{Entry}
use Rattle.relay_journal.specs.declared.entry.Entry.TheVariants.{Opens, Plays, Ends}
use Rattle.relay_journal.specs.Fitting.{AllFit, Fits, Games}
use Rattle.relay_journal.specs.Kept.{key_of, step_of}
use Rattle.relay_journal.specs.Restarting.{IsRefusedAt, Leads, comes, sayer}
use Rattle.relay_journal.proofs.Again.{said_again_fit}

-- ---- Entries lead from games to one list of games.

one_way : (limits : LimitNumbers) (gs hs ks : Games) (j : Entry) → Fits limits gs j hs → Fits limits gs j ks → hs ≡ ks
one_way limits gs hs ks (Opens name start key) (ok, is) (also, other) = is ∙ sym other
one_way limits gs hs ks (Plays name m) (x, ok, is) (y, also, other) = is ∙ sym other
one_way limits gs hs ks (Ends name ending) (x, ok, is) (y, also, other) = is ∙ sym other

all_one_way : (limits : LimitNumbers) (js : List Entry) (gs hs ks : Games) → AllFit limits gs js hs → AllFit limits gs js ks → hs ≡ ks
all_one_way limits [] gs hs ks is other = is ∙ sym other
all_one_way limits (j ∷ js) gs hs ks (mid, one, rest) (next, other, more) =
    all_one_way limits js next hs ks (subst (λ (x : Games). AllFit limits x js hs) (one_way limits gs mid next j one other) rest) more

-- the entry of this place fits behind those before it
record FitsAt (limits : LimitNumbers) (gs : Games) (js : List Entry) (at : ℕ) (e : Entry) : Type 0 where
  mid : Games
  before : AllFit limits gs (take at js) mid
  next : Games
  fits : Fits limits mid e next

fits_at : (limits : LimitNumbers) (at : ℕ) (js : List Entry) (gs hs : Games) (e : Entry) → AllFit limits gs js hs → slice_get js at ≡ Some e → FitsAt limits gs js at e
fits_at limits at [] gs hs e all is = absurd (grind (arith, is))
fits_at limits zero (j ∷ js) gs hs e (mid, one, rest) is = record {
  mid = gs;
  before = refl;
  next = mid;
  fits = subst (λ (x : Entry). Fits limits gs x mid) (same_Some j e is) one;
}
fits_at limits (suc at) (j ∷ js) gs hs e (mid, one, rest) is =
    let behind = fits_at limits at js mid hs e rest is in
    record { mid = behind.mid; before = (mid, one, behind.before); next = behind.next; fits = behind.fits }

-- ---- What fits is accepted, or there is no memory for it.

not_opened : (refusal : Refusal) → Refused refusal ≡ Opened → ⊥
not_opened refusal is = grind (arith, is)

same_refusal : (a b : Refusal) → Refused a ≡ Refused b → a ≡ b
same_refusal a b is = grind (arith, is)

not_played : (refusal : Refusal) (x : ℕ × Option Outcome) → Refused refusal ≡ reply_to_play (Ok x) → ⊥
not_played refusal x is = grind (arith, is)

not_ended : (refusal : Refusal) (x : Outcome) → Refused refusal ≡ reply_to_end (Ok x) → ⊥
not_ended refusal x is = grind (arith, is)

module _ (f : FloorRecord) (who : ℕ) (refusal : Refusal) (ground : refusal ≢ OutOfMemory) (handed : Option Handed) (l : FloorRecord) where
  accepted : (e : Entry) (next : Games) → Fits f.limits (games_of f) e next → Makes f (sayer who e) (step_of e) (Refused refusal) handed l → ⊥
  accepted (Opens name start key) next (ok, is) (opens, none) =
      by (subst (λ (a : Result Unit Refusal). OpensAs f (sayer who (Opens name start key)) name start a (Refused refusal) l) ok opens)
    where
      by : OpensAs f (sayer who (Opens name start key)) name start (Ok tt) (Refused refusal) l → ⊥
      by (inl (table, reply-is, l-is)) = not_opened refusal reply-is
      by (inr (reply-is, l-is)) = ground (same_refusal refusal OutOfMemory reply-is)
  accepted (Plays name m) next (x, ok, is) (reply-is, l-is, none) = not_played refusal x (reply-is ∙ ap reply_to_play ok)
  accepted (Ends name ending) next (x, ok, is) (reply-is, l-is, none) = not_ended refusal x (reply-is ∙ ap reply_to_end ok)

-- whoever comes changes no board
comes_alone : (k : HallRecord) (h : History) (key : Option (List ℕ)) (l : HallRecord) → Leads k h (comes key) l → l.floor ≡ k.floor
comes_alone k h None l leads = by leads.told leads.run
  where
    by : (ts : List HallTold) → HallRuns k h [] ts leads.history l → l.floor ≡ k.floor
    by [] (h-is, l-is) = ap (λ (x : HallRecord). x.floor) l-is
    by (t ∷ ts) r = absurd r
comes_alone k h (Some key) l leads = by leads.told leads.run
  where
    by : (ts : List HallTold) → HallRuns k h (Comes key ∷ []) ts leads.history l → l.floor ≡ k.floor
    by [] r = absurd r
    by (Replied reply handed ∷ ts) (mid, step, r) = absurd step
    by (Silent ∷ []) (mid, (some, one, others, mid-is), (h-is, l-is)) = ap (λ (x : HallRecord). x.floor) l-is ∙ ap (λ (x : HallRecord). x.floor) mid-is
    by (Silent ∷ t ∷ ts) (mid, step, r) = absurd r

pub never_refused : (limits : LimitNumbers) (grace : ℕ) (es : List Entry) (hs : Games) → AllFit limits [] es hs → (at : ℕ) → IsRefusedAt (nobody_yet limits grace) es at → ⊥
never_refused limits grace es hs all at r =
    let there = r.there in
    let behind = fits_at limits at es [] hs r.entry all r.placed in
    let on = said_again_fit limits grace 0 (take at es) [] there r.before in
    let games : behind.mid ≡ games_of there.floor = all_one_way limits (take at es) [] behind.mid (games_of there.floor) behind.before on.fits in
    let floor = comes_alone there [] (key_of r.entry) r.refused.there (r.refused.came []) in
    let here : Fits there.floor.limits (games_of there.floor) r.entry behind.next =
    subst (λ (x : LimitNumbers). Fits x (games_of there.floor) r.entry behind.next) (sym on.limits)
    (subst (λ (x : Games). Fits limits x r.entry behind.next) games behind.fits) in
    accepted r.refused.there.floor at r.refused.refusal r.refused.ground r.refused.handed r.refused.after.floor r.entry behind.next
    (subst (λ (f : FloorRecord). Fits f.limits (games_of f) r.entry behind.next) (sym floor) here) r.refused.refused.0
