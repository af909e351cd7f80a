-- Turns of pushing, one after another.
use Rattle.std.proofs.Common.{◌≡◌, ℕ, List, [], ◌∷◌, ◌++◌, Option, None, Some, refl, sym, ap, subst, append_assoc, append-nil}
use Rattle.relay_core.specs.declared.reply.Taken.{Taken}
use Rattle.relay_core.specs.declared.reply.Taken.TheVariants as takes
use Rattle.relay_pushing.specs.declared.pushing.PushEnd.{PushEnd}
use Rattle.relay_pushing.specs.declared.pushing.PushEnd.TheVariants.{Over, Cut, Failed}
use Rattle.relay_pushing.specs.declared.pushing.Turn.{Turn}
use Rattle.relay_pushing.specs.declared.pushing.Turn.TheVariants.{Waits, IsFull, Ended}
use Rattle.relay_pushing.specs.declared.outlet.SendFault.{SendFault}
use Rattle.relay_pushing.specs.Pushing.{Takes, texts_of, GoesOn, AllGoOn, Going, Went, Pushed, Turned}
use Rattle.relay_pushing.specs.Sending.{GainsAll}
use Rattle.relay_pushing.proofs.lemmas.Pushes.{texts_of-append, gains_more, sent_still}

takes_append : {S : Type 0} (gives : S → Taken → S → Type 0) (s m t : S) (xs ys : List Taken) → Takes gives s xs m → Takes gives m ys t → Takes gives s (xs ++ ys) t
takes_append gives s m t [] ys first then = subst (λ z. Takes gives z ys t) first then
takes_append gives s m t (x ∷ xs) ys first then = (first.0, first.1, takes_append gives first.0 m t xs ys first.2 then)

go_on_append : (xs ys : List Taken) → AllGoOn xs → AllGoOn ys → AllGoOn (xs ++ ys)
go_on_append [] ys first then = then
go_on_append (x ∷ xs) ys first then = (first.0, go_on_append xs ys first.1 then)

unsent : (texts : Option (List (List ℕ))) → GainsAll texts texts []
unsent None = tt
unsent (Some l) = ap (λ z. Some z) (sym (append-nil l))

-- nothing was taken and nothing was sent
pub nothing_yet : {S : Type 0} (gives : S → Taken → S → Type 0) (s : S) (texts : Option (List (List ℕ))) → Going gives s s texts texts
nothing_yet gives s texts = record {
  before = [];
  go_on = tt;
  taken = refl;
  gained = unsent texts;
}

-- one turn that went on, and then another
pub going_on : {S : Type 0} (gives : S → Taken → S → Type 0) (s m t : S) (old mid new : Option (List (List ℕ))) → Going gives s m old mid → Going gives m t mid new → Going gives s t old new
going_on gives s m t old mid new first then = record {
  before = first.before ++ then.before;
  go_on = go_on_append first.before then.before first.go_on then.go_on;
  taken = takes_append gives s m t first.before then.before first.taken then.taken;
  gained = rw (texts_of-append first.before then.before) (gains_more old mid new (texts_of first.before) (texts_of then.before) first.gained then.gained);
}

-- a turn that went on, and then one with a last answer
went_on : {S : Type 0} (gives : S → Taken → S → Type 0) (s m t : S) (old mid new : Option (List (List ℕ))) (xs sent : List Taken) (last : Taken) (first : Going gives s m old mid) → Went gives m t mid new xs last sent → Went gives s t old new (first.before ++ xs) last (first.before ++ sent)
went_on gives s m t old mid new xs sent last first then = record {
  go_on = go_on_append first.before xs first.go_on then.go_on;
  taken = rw (append_assoc first.before xs (last ∷ [])) (takes_append gives s m t first.before (xs ++ last ∷ []) first.taken then.taken);
  gained = rw (texts_of-append first.before sent) (gains_more old mid new (texts_of first.before) (texts_of sent) first.gained then.gained);
}

-- a turn that went on, and then one that ended pushing
pub pushed_on : {S : Type 0} (gives : S → Taken → S → Type 0) (s m t : S) (old mid new : Option (List (List ℕ))) (end : PushEnd) → Going gives s m old mid → Pushed gives m t mid new end → Pushed gives s t old new end
pushed_on gives s m t old mid new (Over outcome) first then =
    (first.before ++ then.0, rw (append_assoc first.before then.0 (takes.Over outcome ∷ [])) (went_on gives s m t old mid new then.0 _ (takes.Over outcome) first then.1))
pushed_on gives s m t old mid new Cut first then =
    (first.before ++ then.0, rw (append_assoc first.before then.0 (takes.Cut ∷ [])) (went_on gives s m t old mid new then.0 _ takes.Cut first then.1))
pushed_on gives s m t old mid new (Failed fault) first then =
    (first.before ++ then.0, then.1, went_on gives s m t old mid new then.0 then.0 then.1 first then.2)

-- a turn that went on, and then another one
pub turned_on : {S : Type 0} (gives : S → Taken → S → Type 0) (s m t : S) (old mid new : Option (List (List ℕ))) (turn : Turn) → Going gives s m old mid → Turned gives m t mid new turn → Turned gives s t old new turn
turned_on gives s m t old mid new Waits first then = (then.0, going_on gives s m then.0 old mid new first then.1, then.2)
turned_on gives s m t old mid new IsFull first then = going_on gives s m t old mid new first then
turned_on gives s m t old mid new (Ended end) first then = pushed_on gives s m t old mid new end first then

-- ---- One take.

-- one that goes on was sent
pub moved : {S : Type 0} (gives : S → Taken → S → Type 0) (s t : S) (old new : Option (List (List ℕ))) (taken : Taken) → GoesOn taken → gives s taken t → GainsAll old new (texts_of (taken ∷ [])) → Going gives s t old new
moved gives s t old new taken on given sent = record {
  before = taken ∷ [];
  go_on = (on, tt);
  taken = (t, given, refl);
  gained = sent;
}

-- the text of an answer could not be sent
pub failed : {S : Type 0} (gives : S → Taken → S → Type 0) (s t : S) (old new : Option (List (List ℕ))) (taken : Taken) (fault : SendFault) → gives s taken t → new ≡ old → Pushed gives s t old new (Failed fault)
failed gives s t old new taken fault given same = ([], taken, record { go_on = tt; taken = (t, given, refl); gained = sent_still old old new [] (unsent old) same })

-- ---- Waiting.

-- a turn that waits went on: its last answer was Nothing
pub waiting_goes_on : {S : Type 0} (gives : S → Taken → S → Type 0) (s t : S) (old new : Option (List (List ℕ))) → Turned gives s t old new Waits → Going gives s t old new
waiting_goes_on gives s t old new waits = going_on gives s waits.0 t old new new waits.1 (moved gives waits.0 t new new takes.Nothing tt waits.2 (unsent new))

-- a turn that went on, then one that waits, and a flush
pub waited_on : {S : Type 0} (gives : S → Taken → S → Type 0) (s m t : S) (old mid new flushed : Option (List (List ℕ))) → Going gives s m old mid → Turned gives m t mid new Waits → flushed ≡ new → Going gives s t old flushed
waited_on gives s m t old mid new flushed first then same =
    subst (λ (texts : Option (List (List ℕ))). Going gives s t old texts) (sym same) (going_on gives s m t old mid new first (waiting_goes_on gives m t mid new then))

-- a turn that went on, then one that waits, and a flush that failed: what was taken last was Nothing, whose text is left out anyway
pub flush_failed : {S : Type 0} (gives : S → Taken → S → Type 0) (s m t : S) (old mid new flushed : Option (List (List ℕ))) (fault : SendFault) → Going gives s m old mid → Turned gives m t mid new Waits → flushed ≡ new → Pushed gives s t old flushed (Failed fault)
flush_failed gives s m t old mid new flushed fault first then same =
    pushed_on gives s then.0 t old new flushed (Failed fault) (going_on gives s m then.0 old mid new first then.1) (failed gives then.0 t new flushed takes.Nothing fault then.2 same)
