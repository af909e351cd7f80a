-- What a board and a follower know after the follower's part was taken in, the status and its cursor loaded, and the part handed out.
use Rattle.std.proofs.Common.{◌≡◌, ℕ, ◌+◌, ◌-◌, ◌/◌, ◌%◌, ◌<◌, ◌≤◌, [], ◌∷◌, length, Option, Some, None, true, sym, refl, ap, ◌∙◌, subst, arith, cond, eqb, lt-ltb}
use Rattle.std.proofs.lemmas.Option.{none-some, same_Some}
use mathlib.Core.Logic.{dite}
use mathlib.Core.Option.{some}
use native.Mathlib.Decide.{ℕ_discrete}
use lib.ListN.{get_elem?}
use Rattle.live_board.proofs.Stretches.{is_stretch}
use Rattle.live_board.specs.declared.words.TheConstants.{MARK}
use Rattle.live_board.specs.declared.setup.BoardSetup.{BoardSetup}
use Rattle.live_board.specs.declared.note.Note.{Note}
use Rattle.live_board.specs.declared.note.Note.TheVariants.{Vacant, Open, Closed}
use Rattle.live_board.specs.declared.view.Part.{Part}
use Rattle.live_board.specs.declared.view.View.{View}
use Rattle.live_board.specs.Words.{length_in, outcome_in, closing_in, joined_noted, note_after}
use Rattle.live_board.specs.Views.{next_of, carrying, taking_in, each_part, sees, learns, noted, kept_part}
use Rattle.live_board.specs.Sound.{Agrees, IsSound}
use Rattle.live_board.proofs.lemmas.Notes.{note_there}
use Rattle.live_board.proofs.lemmas.Cases.{pick}
use Rattle.live_board.specs.Meeting.{Met, closing_noted}
use Rattle.live_board.specs.Takes.{HasSeenNoLess}
use Rattle.live_board.proofs.Followers.{only_is}
use Rattle.live_board.proofs.lemmas.Tries.{loaded_note, noted_long}

same_closed : (c d : ℕ) → Closed c ≡ Closed d → c ≡ d
same_closed c d e = cc

vacant_closed : (c : ℕ) → Vacant ≡ Closed c → ⊥
vacant_closed c e = cc

open_closed : (j b c : ℕ) → Open j b ≡ Closed c → ⊥
open_closed j b c e = cc

-- a cursor without a closing is not noted as closed except at 0
closed_at_none : (x : Note) (n c : ℕ) → note_after x n ≡ Closed c → closing_in n ≡ None → c ≡ 0
closed_at_none x n c is none = pick (λ (m : Note). m ≡ Closed c → c ≡ 0) (eqb n 0) Vacant (cond (eqb (n / MARK) 1) (Open (joined_noted x) (n % MARK)) (Closed (n / MARK - 2)))
    (λ _ e. absurd (vacant_closed c e))
    (λ _. pick (λ (m : Note). m ≡ Closed c → c ≡ 0) (eqb (n / MARK) 1) (Open (joined_noted x) (n % MARK)) (Closed (n / MARK - 2))
    (λ _ e. absurd (open_closed (joined_noted x) (n % MARK) c e))
    (λ _ e. let same = same_closed (n / MARK - 2) c e in dite (ℕ_discrete c 0) (λ (z : c ≡ 0). z)
    (λ ne. let more : 1 < n / MARK = omega (arith, same, ne) in
    absurd (none-some (n / MARK - 2) (sym none ∙ ap (λ b. cond b (Some (n / MARK - 2)) None) (lt-ltb 1 (n / MARK) more))))))
    is

-- the board's view after it took in the part, then loaded the status, then the part's cursor
abbrev pub joined_in : View → BoardSetup → Part → View
joined_in v z p = taking_in v (carrying z (p ∷ []))

abbrev pub looked_in : View → BoardSetup → Part → ℕ → View
looked_in v z p r = each_part (sees r) (joined_in v z p)

abbrev pub checked_in : View → BoardSetup → Part → ℕ → ℕ → ℕ → View
checked_in v z p r k n = noted (k + 2) n (looked_in v z p r)

-- the part that was taken in is at one of the board's cursors, and has the board's setup
pub looked_inside : (w v : View) (z : BoardSetup) (p : Part) (r : ℕ) → w ≡ looked_in v z p r → v.owns ≡ true → IsSound w → (p.slot < v.setup.limits.followers) × (p.setup ≡ v.setup)
looked_inside w v z p r is owns sound =
    let b = sound.board (ap (λ (u : View). u.owns) is ∙ owns) in
    let x = b.inside 0 (sees r p) (ap (λ (u : View). get_elem? u.parts 0) is) in
    let setup = ap (λ (u : View). u.setup) is in
    (subst (λ (y : BoardSetup). p.slot < y.limits.followers) setup x.0, x.1 ∙ setup)

module _ (v : View) (z : BoardSetup) (p : Part) (k r n : ℕ) where
  pub meets : p.slot ≡ k → v.owns ≡ true → IsSound (checked_in v z p r k n) → length_in r ≡ length v.log → outcome_in r ≡ v.outcome → HasSeenNoLess p (learns n (sees r p)) → Met v p (kept_part (checked_in v z p r k n)) (learns n (sees r p))
  meets here owns sound len over no-less =
      let w = checked_in v z p r k n in
      let q = learns n (sees r p) in
      let b = sound.board owns in
      let first : get_elem? w.parts 0 ≡ some q = ap some (only_is (k + 2) (learns n) (sees r p) (ap (λ (x : ℕ). x + 2) here)) in
      let inside = b.inside 0 q first in
      let long : length w.notes ≡ length v.notes = noted_long (looked_in v z p r) k n in
      let low : k < length v.notes = let x = inside.0 in let y = b.noted in omega (arith, x, y, long, here) in
      let old = note_there v.notes k low in
      let note : Note = note_after old.0 n in
      let at-slot : get_elem? w.notes p.slot ≡ some note = ap (get_elem? w.notes) here ∙ loaded_note (looked_in v z p r) k n old.0 old.1 in
      let agreed : Agrees w note q = b.agree 0 q first note at-slot in
      let within = next_within note agreed in
      record {
        setup = refl;
        log = refl;
        outcome = refl;
        closings = refl;
        learned = (r, n, refl);
        no_less = no-less;
        seen = len;
        over = over;
        within = within;
        has_stretch = is_stretch p.taken v.log p.joined (b.stretch 0 q first) within;
        note = note;
        noted = at-slot;
        there = λ e. subst (λ (m : Note). Agrees w m q) e agreed;
        closing = known old.0 (let c = b.limits.some_capacity in c) note refl agreed;
        closed = λ d e. closed_by note agreed d (sym (known old.0 (let c = b.limits.some_capacity in c) note refl agreed) ∙ e);
      }
    where
      next_within : (m : Note) → Agrees (checked_in v z p r k n) m (learns n (sees r p)) → next_of p ≤ length v.log
      next_within Vacant a = absurd a
      next_within (Open j l) a = a.3
      next_within (Closed c) a = let x = a.0 in let y = a.1 in omega (arith, x, y)

      closed_by : (m : Note) → Agrees (checked_in v z p r k n) m (learns n (sees r p)) → (d : ℕ) → closing_noted m ≡ Some d → d ≤ length v.log
      closed_by Vacant a d e = absurd a
      closed_by (Open j l) a d e = absurd (none-some d e)
      closed_by (Closed c) a d e = subst (λ (x : ℕ). x ≤ length v.log) (same_Some _ _ e) a.1

      known : (x : Note) → 1 ≤ v.setup.limits.capacity → (m : Note) → note_after x n ≡ m → Agrees (checked_in v z p r k n) m (learns n (sees r p)) → closing_in n ≡ closing_noted m
      known x some-capacity Vacant is a = absurd a
      known x some-capacity (Open j l) is a = a.1
      known x some-capacity (Closed c) is a = by (closing_in n) refl
        where
          by : (o : Option ℕ) → closing_in n ≡ o → closing_in n ≡ Some c
          by None e = let zero-closing = closed_at_none x n c is e in let full = a.3 e in absurd (omega (arith, zero-closing, full, some-capacity))
          by (Some d) e = e ∙ ap Some (a.4 d e)
