-- The effects of loads and exchanges of cursors on a board's view.
use Rattle.std.proofs.Common.{◌≡◌, ◌≢◌, ℕ, zero, suc, ◌+◌, ◌-◌, ◌*◌, ◌<◌, ◌≤◌, ◌⊎◌, inr, List, set, length, get_or, sym, refl, ap, ◌∙◌, subst, ⊎_elim, arith, length-set, get_or-set_other, get_or-set_same}
use Rattle.std.proofs.Math.Nat.{lt_of_not-le}
use Rattle.std.specs.Prelude.{MatchOption, Option, Some, None}
use mathlib.Core.Logic.{dite}
use mathlib.Core.Option.{some, some-injective}
use native.Mathlib.Decide.{ℕ_discrete}
use lib.ListN.{get_elem?}
use Rattle.live_board.specs.declared.words.TheConstants.{MARK}
use Rattle.live_board.specs.declared.note.Note.{Note}
use Rattle.live_board.specs.declared.note.Note.TheVariants.{Vacant, Open, Closed}
use Rattle.live_board.specs.declared.step.BoardStep.{BoardStep}
use Rattle.live_board.specs.declared.view.Part.{Part}
use Rattle.live_board.specs.declared.view.View.{View}
use Rattle.live_board.specs.Words.{cursor_of, note_after}
use Rattle.live_board.specs.Views.{noted, missing, closed_off}
use Rattle.live_board.proofs.lemmas.Notes.{note_there, note_read, at_within, closed_open, open_back, at_place, at_other}
use Rattle.live_board.specs.TableWriter.{NotedAs, Checked, IsNotedFull, Exchanged, MayBeFull, Asked, Tried, TriedBelow, FreeBelow, CheckedBelow, LoadedBelow, Unmoved}

-- the note that a load of the cursor k sets
pub loaded_note : (v : View) (k r : ℕ) (a : Note) → get_elem? v.notes k ≡ some a → get_elem? (noted (k + 2) r v).notes k ≡ some (note_after a r)
loaded_note v k r a e =
    let here : k + 2 - 2 ≡ k = omega arith in
    let was : get_or v.notes (k + 2 - 2) Vacant ≡ a = ap (λ (x : ℕ). get_or v.notes x Vacant) here ∙ note_read v.notes k a e in
    at_place v.notes k (note_after (get_or v.notes (k + 2 - 2) Vacant) r) (at_within v.notes k a e) ∙ ap (λ (n : Note). some (note_after n r)) was

-- the notes of the other cursors
noted_else : (v : View) (k r j : ℕ) → j ≢ k → get_elem? (noted (k + 2) r v).notes j ≡ get_elem? v.notes j
noted_else v k r j = at_other v.notes k j (note_after (get_or v.notes (k + 2 - 2) Vacant) r)

pub noted_long : (v : View) (k r : ℕ) → length (noted (k + 2) r v).notes ≡ length v.notes
noted_long v k r = length-set v.notes (k + 2 - 2) (note_after (get_or v.notes (k + 2 - 2) Vacant) r)

-- the view with other notes, counts, closings, steps made and parts
abbrev pub beside : View → List Note → List ℕ → List ℕ → List BoardStep → List Part → View
beside v notes checks closings made parts = record v { notes = notes; checks = checks; closings = closings; made = made; parts = parts }

-- ---- A follower is closed, or not.

-- What holds after the cursor k was loaded. It was left alone, since its note is not that of a full follower; or the exchange closed the
-- follower; or the exchange found another word.
by_asked : (P : View → Type 0) (v w : View) (k : ℕ) → Asked v k w
    → ((r : ℕ) → NotedAs v k r → ((place : ℕ) → ¬ (IsNotedFull (noted (k + 2) r v) k place)) → P (noted (k + 2) r v))
    → ((r place : ℕ) → NotedAs v k r → IsNotedFull (noted (k + 2) r v) k place → P (closed_off (k + 2) (noted (k + 2) r v)))
    → ((r place n : ℕ) → NotedAs v k r → IsNotedFull (noted (k + 2) r v) k place → NotedAs (noted (k + 2) r v) k n → (n ≡ 0) ⊎ (cursor_of place None < n) → P (missing (k + 2) n (noted (k + 2) r v)))
    → P w
by_asked P v w k (u, (r, is, told), went) left hit miss =
    ⊎_elim exchanged (λ (x : (w ≡ u') × ((place : ℕ) → ¬ (IsNotedFull u' k place))). subst P (sym x.0) (left r told x.1)) (subst Went is went)
  where
    u' : View
    u' = noted (k + 2) r v

    Went : View → Type 0
    Went x = ((place : ℕ) × IsNotedFull x k place × Exchanged x k place w) ⊎ ((w ≡ x) × ((place : ℕ) → ¬ (IsNotedFull x k place)))

    exchanged : ((place : ℕ) × IsNotedFull u' k place × Exchanged u' k place w) → P w
    exchanged (place, full, e) = ⊎_elim
        (λ (x : w ≡ closed_off (k + 2) u'). subst P (sym x) (hit r place told full))
        (λ (x : (n : ℕ) × (w ≡ missing (k + 2) n u') × NotedAs u' k n × ((n ≡ 0) ⊎ (cursor_of place None < n))). subst P (sym x.1) (miss r place x.0 told full x.2 x.3)) e

-- What holds after a try at the cursor k: nothing was done, since its follower can't be full; or what holds after a load.
pub by_try : (P : View → Type 0) (v w : View) (k : ℕ) → Tried v k w
    → ((MayBeFull v k → ⊥) → P v)
    → ((r : ℕ) → NotedAs v k r → ((place : ℕ) → ¬ (IsNotedFull (noted (k + 2) r v) k place)) → P (noted (k + 2) r v))
    → ((r place : ℕ) → NotedAs v k r → IsNotedFull (noted (k + 2) r v) k place → P (closed_off (k + 2) (noted (k + 2) r v)))
    → ((r place n : ℕ) → NotedAs v k r → IsNotedFull (noted (k + 2) r v) k place → NotedAs (noted (k + 2) r v) k n → (n ≡ 0) ⊎ (cursor_of place None < n) → P (missing (k + 2) n (noted (k + 2) r v)))
    → P w
by_try P v w k t skip left hit miss =
    ⊎_elim (λ (x : MayBeFull v k × Asked v k w). by_asked P v w k x.1 left hit miss) (λ (x : (MayBeFull v k → ⊥) × (w ≡ v)). subst P (sym x.1) (skip x.0)) t

-- of the notes only that of the cursor k has changed, and it is not that of a full follower
pub record Tidied (v : View) (k : ℕ) (w : View) : Type 0 where
  pub same : w ≡ beside v w.notes w.checks w.closings w.made w.parts
  pub long : length w.notes ≡ length v.notes
  pub elsewhere : (j : ℕ) → j ≢ k → get_elem? w.notes j ≡ get_elem? v.notes j
  pub free : (j b : ℕ) → get_elem? w.notes k ≡ some (Open j b) → length v.log < b + v.setup.limits.capacity

pub tidied : (v w : View) (k : ℕ) → Tried v k w → Tidied v k w
tidied v w k t = by_try (Tidied v k) v w k t
    (λ none. record {
      same = refl;
      long = refl;
      elsewhere = λ j d. refl;
      free = λ j b e. lt_of_not-le (λ full. none (j, b, e, full));
    })
    (λ r told open-end. record {
      same = refl;
      long = noted_long v k r;
      elsewhere = noted_else v k r;
      free = λ j b e.
          let old = note_there v.notes k (omega (arith, at_within (noted (k + 2) r v).notes k (Open j b) e, noted_long v k r)) in
          let near = (told old.0 old.1).1 j b (some-injective _ _ (sym (loaded_note v k r old.0 old.1) ∙ e)) in
          let ne : b + v.setup.limits.capacity ≢ length v.log = λ q. open-end b (j, e, q) in
          omega arith;
    })
    (λ r place told full.
    let u = noted (k + 2) r v in record {
      same = refl;
      long = length-set u.notes (k + 2 - 2) (Closed (length v.log)) ∙ noted_long v k r;
      elsewhere = λ j d. at_other u.notes k j (Closed (length v.log)) d ∙ noted_else v k r j d;
      free = λ j b e. absurd (closed_open (length v.log) j b (some-injective _ _ (sym (at_place u.notes k (Closed (length v.log)) (at_within _ _ _ full.1)) ∙ e)));
    })
    (λ r place n told full told' later.
    let u = noted (k + 2) r v in record {
      same = refl;
      long = noted_long u k n ∙ noted_long v k r;
      elsewhere = λ j d. noted_else u k n j d ∙ noted_else v k r j d;
      free = λ j b e.
          let word = open_back (Open full.0 place) n j b (some-injective _ _ (sym (loaded_note u k n (Open full.0 place) full.1) ∙ e)) in
          ⊎_elim (λ (y : n ≡ 0). absurd (omega (arith, word.0, y))) (λ (y : place + MARK * 1 < n). omega (arith, word.0, word.1, y, full.2)) later;
    })

-- the notes below n are not those of full followers, and the others are as they were
pub record TidiedBelow (n : ℕ) (v w : View) : Type 0 where
  pub same : w ≡ beside v w.notes w.checks w.closings w.made w.parts
  pub long : length w.notes ≡ length v.notes
  pub later : (k : ℕ) → n ≤ k → get_elem? w.notes k ≡ get_elem? v.notes k
  pub free : FreeBelow n w

pub tidied_below : (n : ℕ) (v w : View) → TriedBelow n v w → TidiedBelow n v w
tidied_below zero v w is = subst (TidiedBelow 0 v) (sym is) record {
  same = refl;
  long = refl;
  later = λ k h. refl;
  free = λ k j b less e. absurd (omega arith);
}
tidied_below (suc n) v w (u, before, last) =
    let a = tidied_below n v u before in
    let b = tidied u w n last in
    let len : length w.log ≡ length u.log = ap (λ (x : View). length x.log) b.same in
    let cap : w.setup.limits.capacity ≡ u.setup.limits.capacity = ap (λ (x : View). x.setup.limits.capacity) b.same in
    record {
      same = b.same ∙ ap (λ (x : View). beside x w.notes w.checks w.closings w.made w.parts) a.same;
      long = b.long ∙ a.long;
      later = λ k h. b.elsewhere k (λ e. let x : k ≡ n = e in omega arith) ∙ a.later k (omega arith);
      free = λ k j l less e. dite (ℕ_discrete k n)
          (λ (x : k ≡ n). omega (arith, b.free j l (ap (get_elem? w.notes) (sym x) ∙ e), len, cap))
          (λ ne. omega (arith, a.free k j l (omega arith) (sym (b.elsewhere k ne) ∙ e), len, cap));
    }

-- if no follower at the first n cursors can be full, nothing is done
pub tried_none : (n : ℕ) (v : View) → FreeBelow n v → TriedBelow n v v
tried_none zero v free = refl
tried_none (suc n) v free =
    (v, tried_none n v (λ k j b less e. free k j b (omega arith) e), inr ((λ full. let less = free n full.0 full.1 (omega arith) full.2 in let most = full.3 in absurd (omega arith)), refl))

-- ---- Cursors are loaded.

-- a count that is one higher
module _ (l : List ℕ) (k : ℕ) (low : k < length l) where
  abbrev one_more : List ℕ
  one_more = set l (k + 2 - 2) (get_or l (k + 2 - 2) 0 + 1)

  mine : get_or one_more k 0 ≡ get_or l k 0 + 1
  mine = let here : k + 2 - 2 ≡ k = omega arith in ap (λ (x : ℕ). get_or (set l x (get_or l x 0 + 1)) k 0) here ∙ get_or-set_same l k (get_or l k 0 + 1) 0 low

  no_less : (j : ℕ) → get_or l j 0 ≤ get_or one_more j 0
  no_less j = dite (ℕ_discrete j k)
      (λ (e : j ≡ k). subst (λ (x : ℕ). get_or l x 0 ≤ get_or one_more x 0) (sym e) (let x = mine in omega arith))
      (λ d. let x = get_or-set_other l (k + 2 - 2) j (get_or l (k + 2 - 2) 0 + 1) 0 (λ e. d (omega arith)) in omega arith)

-- the counts of loads of the first n cursors rose, and no other fell
pub record CountedBelow (n : ℕ) (v w : View) : Type 0 where
  pub long : length w.checks ≡ length v.checks
  pub rose : LoadedBelow n v w
  pub kept : (k : ℕ) → get_or v.checks k 0 ≤ get_or w.checks k 0

pub counted_below : (n : ℕ) (v w : View) → n ≤ length v.checks → CheckedBelow n v w → CountedBelow n v w
counted_below zero v w within is = subst (CountedBelow 0 v) (sym is) record {
  long = refl;
  rose = λ k less. absurd (omega arith);
  kept = λ k. omega arith;
}
counted_below (suc n) v w within (u, before, (r, is, told)) =
    let a = counted_below n v u (omega arith) before in
    let low : n < length u.checks = let x = a.long in omega arith in
    subst (CountedBelow (suc n) v) (sym is) record {
      long = length-set u.checks (n + 2 - 2) (get_or u.checks (n + 2 - 2) 0 + 1) ∙ a.long;
      rose = λ j less. dite (ℕ_discrete j n)
          (λ (e : j ≡ n). subst (λ (x : ℕ). get_or v.checks x 0 < get_or (one_more u.checks n low) x 0) (sym e) (let x = a.kept n in let y = mine u.checks n low in omega arith))
          (λ d. let x = a.rose j (omega arith) in let y = no_less u.checks n low j in omega arith);
      kept = λ j. let x = a.kept j in let y = no_less u.checks n low j in omega arith;
    }

pub unmoved : (v : View) → Unmoved v v
unmoved v = record { setup = refl; log = refl; outcome = refl; closings = refl }

pub unmoved_below : (n : ℕ) (v w : View) → CheckedBelow n v w → Unmoved v w
unmoved_below zero v w is = subst (Unmoved v) (sym is) (unmoved v)
unmoved_below (suc n) v w (u, before, (r, is, told)) =
    let a = unmoved_below n v u before in
    subst (Unmoved v) (sym is) record { setup = a.setup; log = a.log; outcome = a.outcome; closings = a.closings }

pub tried_more : (n : ℕ) (v u w : View) → TriedBelow n v u → Tried u n w → TriedBelow (n + 1) v w
tried_more n v u w before last = let e : suc n ≡ n + 1 = omega arith in subst (λ (x : ℕ). TriedBelow x v w) e (u, before, last)

pub checked_more : (n : ℕ) (v u w : View) → CheckedBelow n v u → Checked u n w → CheckedBelow (n + 1) v w
checked_more n v u w before last = let e : suc n ≡ n + 1 = omega arith in subst (λ (x : ℕ). CheckedBelow x v w) e (u, before, last)

-- what a search that found nothing has shown, in addition to what each cursor's load has
pub with_none : {A : Type 0} (o : Option A) (P Q : Type 0) (R : A → Type 0) → MatchOption o Q R → P → MatchOption o (P × Q) R
with_none None P Q R h p = (p, h)
with_none (Some x) P Q R h p = h
