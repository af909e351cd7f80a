-- The effects of the tries to close followers on a board's view.
use Rattle.std.proofs.Common.{◌≡◌, ◌≢◌, ℕ, zero, suc, ◌+◌, ◌-◌, ◌<◌, ◌≤◌, ◌⊎◌, List, [], ◌∷◌, map, length, nat_lt, Some, None, sym, refl, ap, ◌∙◌, subst, inl, inr, ⊎_elim, arith, cond, eqb, eqb-true}
use mathlib.Core.Logic.{dite}
use mathlib.Core.Option.{some, some-injective}
use native.Mathlib.Decide.{ℕ_discrete}
use lib.ListN.{get_elem?}
use Rattle.live_board.specs.declared.note.Note.{Note}
use Rattle.live_board.specs.declared.note.Note.TheVariants.{Vacant, Open, Closed}
use Rattle.live_board.specs.declared.view.Part.{Part}
use Rattle.live_board.specs.declared.view.View.{View}
use Rattle.live_board.specs.Words.{closing_in, note_after}
use Rattle.live_board.specs.Views.{noted, missing, learns, only_at}
use Rattle.live_board.specs.Sound.{Follows}
use Rattle.live_board.proofs.lemmas.Cases.{pick, not_there}
use Rattle.live_board.proofs.lemmas.Totals.{at_map_back}
use Rattle.live_board.specs.Carried.{holding_of}
use Rattle.live_board.specs.TableWriter.{Tried, TriedBelow}
use Rattle.live_board.proofs.lemmas.Notes.{at_within, closed_open, open_back, vacant_open, at_place}
use Rattle.live_board.proofs.lemmas.Tries.{by_try, loaded_note, tidied, tidied_below, TidiedBelow}

-- ---- Notes.

-- an open cursor says no closing
open_none : (n : Note) (r j b : ℕ) → note_after n r ≡ Open j b → closing_in r ≡ None
open_none n r j b e = ap (λ (y : ℕ). cond (nat_lt 1 y) (Some (y - 2)) None) (open_back n r j b e).0

-- ---- Parts.

-- no part in the slot k has noticed a closing
abbrev pub NoneNoticed : List Part → ℕ → Type 0
NoneNoticed ps k = (i : ℕ) (p : Part) → get_elem? ps i ≡ some p → p.slot ≡ k → p.closing ≡ None

learned_slot : (word r : ℕ) (p : Part) → (only_at word (learns r) p).slot ≡ p.slot
learned_slot word r p = pick (λ (x : Part). x.slot ≡ p.slot) (eqb (p.slot + 2) word) (learns r p) p (λ _. refl) (λ _. refl)

held_learned : (word r : ℕ) (ps : List Part) → map holding_of (map (only_at word (learns r)) ps) ≡ map holding_of ps
held_learned word r [] = refl
held_learned word r (p ∷ ps) =
    let one : holding_of (only_at word (learns r) p) ≡ holding_of p = pick (λ (x : Part). holding_of x ≡ holding_of p) (eqb (p.slot + 2) word) (learns r p) p (λ _. refl) (λ _. refl) in
    λ i. one i ∷ held_learned word r ps i

-- a load of the cursor k leaves the parts in other slots
noticed_other : (k j r : ℕ) (ps : List Part) → j ≢ k → NoneNoticed ps j → NoneNoticed (map (only_at (k + 2) (learns r)) ps) j
noticed_other k j r ps ne none i q e here =
    let p = at_map_back (only_at (k + 2) (learns r)) ps i q e in
    let slot : p.0.slot ≡ j = sym (learned_slot (k + 2) r p.0) ∙ ap (λ (x : Part). x.slot) p.2 ∙ here in
    let same : only_at (k + 2) (learns r) p.0 ≡ p.0 = pick (λ (x : Part). x ≡ p.0) (eqb (p.0.slot + 2) (k + 2)) (learns r p.0) p.0 (λ t. let z = eqb-true (p.0.slot + 2) (k + 2) t in absurd (ne (omega (arith, z, slot)))) (λ _. refl) in
    ap (λ (x : Part). x.closing) (sym p.2 ∙ same) ∙ none i p.0 p.1 slot

-- if the cursor k is open, no part there has noticed a closing after it is loaded
noticed_none : (k r : ℕ) (ps : List Part) → closing_in r ≡ None → NoneNoticed (map (only_at (k + 2) (learns r)) ps) k
noticed_none k r ps says i q e here =
    let p = at_map_back (only_at (k + 2) (learns r)) ps i q e in
    let slot : p.0.slot ≡ k = sym (learned_slot (k + 2) r p.0) ∙ ap (λ (x : Part). x.slot) p.2 ∙ here in
    ap (λ (x : Part). x.closing) (sym p.2)
    ∙ pick (λ (x : Part). x.closing ≡ None) (eqb (p.0.slot + 2) (k + 2)) (learns r p.0) p.0 (λ _. says) (λ t. absurd (not_there (k + 2) (p.0.slot + 2) t (ap (λ (y : ℕ). y + 2) slot)))

-- ---- What a note becomes.

-- what the note of the slot k becomes when full followers are closed at the length
abbrev pub Turns : ℕ → List Part → ℕ → Note → Note → Type 0
Turns len ps k Vacant n = n ≡ Vacant
Turns len ps k (Open joined least) n = (n ≡ Vacant) ⊎ (((c : ℕ) × (n ≡ Open joined c)) ⊎ ((n ≡ Closed len) × NoneNoticed ps k))
Turns len ps k (Closed c) n = (n ≡ Vacant) ⊎ (n ≡ Closed c)

turns_by : (len : ℕ) (ps : List Part) (k : ℕ) (a n : Note) → Follows a n → Turns len ps k a n
turns_by len ps k Vacant n f = f
turns_by len ps k (Open joined least) n f = ⊎_elim (λ (x : n ≡ Vacant). inl x) (λ (x : (c : ℕ) × (n ≡ Open joined c) × (least ≤ c)). inr (inl (x.0, x.1))) f
turns_by len ps k (Closed c) n f = f

-- the note of an open follower, loaded again
turns_again : (len : ℕ) (ps : List Part) (k : ℕ) (a : Note) (j b : ℕ) (n : Note) → Follows a (Open j b) → Follows (Open j b) n → Turns len ps k a n
turns_again len ps k Vacant j b n f g = absurd (vacant_open j b (sym f))
turns_again len ps k (Closed c) j b n f g = ⊎_elim (λ (x : Open j b ≡ Vacant). absurd (vacant_open j b (sym x))) (λ (x : Open j b ≡ Closed c). absurd (closed_open c j b (sym x))) f
turns_again len ps k (Open joined least) j b n f g =
    let same : j ≡ joined = ⊎_elim (λ (x : Open j b ≡ Vacant). absurd (vacant_open j b (sym x))) (λ (x : (c : ℕ) × (Open j b ≡ Open joined c) × (least ≤ c)). first x.0 x.1) f in
    ⊎_elim (λ (x : n ≡ Vacant). inl x) (λ (x : (c : ℕ) × (n ≡ Open j c) × (b ≤ c)). inr (inl (x.0, x.1 ∙ ap (λ (y : ℕ). Open y x.0) same))) g
  where
    first : (c : ℕ) → Open j b ≡ Open joined c → j ≡ joined
    first c e = cc

turns_closed : (len : ℕ) (ps : List Part) (k : ℕ) (a : Note) (j b : ℕ) → Follows a (Open j b) → NoneNoticed ps k → Turns len ps k a (Closed len)
turns_closed len ps k Vacant j b f none = absurd (vacant_open j b (sym f))
turns_closed len ps k (Closed c) j b f none = ⊎_elim (λ (x : Open j b ≡ Vacant). absurd (vacant_open j b (sym x))) (λ (x : Open j b ≡ Closed c). absurd (closed_open c j b (sym x))) f
turns_closed len ps k (Open joined least) j b f none = inr (inr (refl, none))

-- a note that stays follows from itself
stays_noted : (a : Note) → Follows a a
stays_noted Vacant = refl
stays_noted (Open joined least) = inr (least, refl, omega arith)
stays_noted (Closed c) = inr refl

-- ---- One slot.

-- what a try to close the follower in the slot k does to the parts and to its note
pub record TriedOnce (v : View) (k : ℕ) (w : View) : Type 0 where
  pub held : map holding_of w.parts ≡ map holding_of v.parts
  pub others : (j : ℕ) → j ≢ k → NoneNoticed v.parts j → NoneNoticed w.parts j
  pub turns : (a n : Note) → get_elem? v.notes k ≡ some a → get_elem? w.notes k ≡ some n → Turns (length v.log) w.parts k a n

tried_once : (v w : View) (k : ℕ) → Tried v k w → TriedOnce v k w
tried_once v w k t = by_try (TriedOnce v k) v w k t
    (λ _. record {
      held = refl;
      others = λ j d none. none;
      turns = λ a n e d. subst (Turns (length v.log) v.parts k a) (some-injective _ _ (sym e ∙ d)) (turns_by (length v.log) v.parts k a a (stays_noted a));
    })
    (λ r told open-end. record {
      held = held_learned (k + 2) r v.parts;
      others = λ j d none. noticed_other k j r v.parts d none;
      turns = λ a n e d. subst (Turns (length v.log) (noted (k + 2) r v).parts k a) (some-injective _ _ (sym (loaded_note v k r a e) ∙ d)) (turns_by (length v.log) (noted (k + 2) r v).parts k a (note_after a r) (told a e).0);
    })
    (λ r place told full.
    let u = noted (k + 2) r v in record {
      held = held_learned (k + 2) r v.parts;
      others = λ j d none. noticed_other k j r v.parts d none;
      turns = λ a n e d.
          let after : note_after a r ≡ Open full.0 place = some-injective _ _ (sym (loaded_note v k r a e) ∙ full.1) in
          subst (Turns (length v.log) u.parts k a) (some-injective _ _ (sym (at_place u.notes k (Closed (length v.log)) (at_within u.notes k (Open full.0 place) full.1)) ∙ d))
          (turns_closed (length v.log) u.parts k a full.0 place (subst (Follows a) after (told a e).0) (noticed_none k r v.parts (open_none a r full.0 place after)));
    })
    (λ r place n told full told' later.
    let u = noted (k + 2) r v in
    let w' = missing (k + 2) n u in record {
      held = held_learned (k + 2) n u.parts ∙ held_learned (k + 2) r v.parts;
      others = λ j d none. noticed_other k j n u.parts d (noticed_other k j r v.parts d none);
      turns = λ a b e d.
          let after : note_after a r ≡ Open full.0 place = some-injective _ _ (sym (loaded_note v k r a e) ∙ full.1) in
          subst (Turns (length v.log) w'.parts k a) (some-injective _ _ (sym (loaded_note u k n (Open full.0 place) full.1) ∙ d))
          (turns_again (length v.log) w'.parts k a full.0 place (note_after (Open full.0 place) n) (subst (Follows a) after (told a e).0) (told' (Open full.0 place) full.1).0);
    })

-- ---- The slots below n.

pub record Closes (n : ℕ) (v w : View) : Type 0 where
  pub tidied : TidiedBelow n v w
  pub held : map holding_of w.parts ≡ map holding_of v.parts
  pub turns : (k : ℕ) (a b : Note) → k < n → get_elem? v.notes k ≡ some a → get_elem? w.notes k ≡ some b → Turns (length v.log) w.parts k a b

-- what a note has become stays so if the other parts have not noticed more
turns_on : (len : ℕ) (ps qs : List Part) (k : ℕ) (a b : Note) → (NoneNoticed ps k → NoneNoticed qs k) → Turns len ps k a b → Turns len qs k a b
turns_on len ps qs k Vacant b on t = t
turns_on len ps qs k (Closed c) b on t = t
turns_on len ps qs k (Open joined least) b on t = ⊎_elim (λ (x : b ≡ Vacant). inl x)
    (λ x. ⊎_elim (λ (y : (c : ℕ) × (b ≡ Open joined c)). inr (inl y)) (λ (y : (b ≡ Closed len) × NoneNoticed ps k). inr (inr (y.0, on y.1))) x) t

pub closes : (n : ℕ) (v w : View) → TriedBelow n v w → Closes n v w
closes zero v w is = record {
  tidied = tidied_below zero v w is;
  held = ap (λ (x : View). map holding_of x.parts) is;
  turns = λ k a b less e d. absurd (omega arith);
}
closes (suc n) v w (u, before, last) =
    let a = closes n v u before in
    let b = tried_once u w n last in
    let t = tidied u w n last in
    let len : length u.log ≡ length v.log = ap (λ (x : View). length x.log) a.tidied.same in
    record {
      tidied = tidied_below (suc n) v w (u, before, last);
      held = b.held ∙ a.held;
      turns = λ k x y less e d. dite (ℕ_discrete k n)
          (λ (here : k ≡ n).
          let was : get_elem? u.notes n ≡ some x = a.tidied.later n (omega arith) ∙ ap (get_elem? v.notes) (sym here) ∙ e in
          subst (λ (j : ℕ). Turns (length v.log) w.parts j x y) (sym here) (subst (λ (z : ℕ). Turns z w.parts n x y) len (b.turns x y was (ap (get_elem? w.notes) (sym here) ∙ d))))
          (λ ne. turns_on (length v.log) u.parts w.parts k x y (b.others k ne) (a.turns k x y (omega arith) e (sym (t.elsewhere k ne) ∙ d)));
    }
