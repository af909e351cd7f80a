-- A take through the board's seat, which carries the follower's part.
use Rattle.std.proofs.Common.{◌≡◌, ℕ, zero, suc, ◌+◌, ◌<◌, ◌≤◌, ◌≢◌, List, [], ◌∷◌, ◌++◌, map, length, drop, take, unwrap_or, Option, Some, None, sym, refl, ap, ◌∙◌, arith, cond, eqb, eq-eqb, ne_eqb, length-take}
use Rattle.std.proofs.Math.ListN.{drop_of_length-le}
use Rattle.std.proofs.Math.Seq.{take-length}
use Rattle.std.proofs.lemmas.Option.{none-some}
use mathlib.Core.Option.{some, some-injective, some-ne-none}
use mathlib.Core.Logic.{dite}
use native.Mathlib.Decide.{ℕ_discrete}
use lib.ListN.{get_elem?}
use Rattle.atomic_table.proofs.Lists.{at_map}
use Rattle.c960_board.specs.Moves.{Triple}
use Rattle.relay_core.specs.declared.reply.Taken.{Taken}
use Rattle.relay_core.specs.declared.reply.Taken.TheVariants.{Move, Nothing, Over, Cut}
use Rattle.relay_core.specs.Replies.{taken_of}
use Rattle.c960_game.specs.declared.outcome.Outcome.{Outcome}
use Rattle.live_board.specs.SharedBoard.{move_at}
use Rattle.live_board.specs.declared.setup.BoardSetup.{BoardSetup}
use Rattle.live_board.specs.declared.note.Note.{Note}
use Rattle.live_board.specs.declared.note.Note.TheVariants.{Vacant, Open, Closed}
use Rattle.live_board.specs.declared.view.Part.{Part}
use Rattle.live_board.specs.declared.view.View.{View}
use Rattle.live_board.specs.Words.{length_in, outcome_in, move_word_at}
use Rattle.live_board.specs.Views.{next_of, next_word, each_part, sees, finds, gains, only_at}
use Rattle.live_board.specs.Sound.{IsSoundBoard, Agrees}
use Rattle.live_board.proofs.lemmas.Notes.{note_there}
use Rattle.live_board.proofs.lemmas.Cases.{pick}
use Rattle.live_board.specs.Meeting.{closing_noted}
use Rattle.live_board.specs.Carried.{closing_found, closing_at, due_at, HasLooked, Holding, holding_of, Looked, with_items, items_of, TookAt}
use Rattle.live_board.proofs.Followers.{found_is}

-- ---- Stretches of a log.

drop_next : (l : List Triple) (n : ℕ) → n < length l → drop n l ≡ move_at l n ∷ drop (suc n) l
drop_next [] n h = absurd (omega arith)
drop_next (x ∷ xs) zero h = refl
drop_next (x ∷ xs) (suc n) h = drop_next xs n (omega arith)

at_take : (k : ℕ) (l : List Triple) (n : ℕ) → n < k → move_at (take k l) n ≡ move_at l n
at_take zero l n h = absurd (omega arith)
at_take (suc k) [] n h = refl
at_take (suc k) (x ∷ xs) zero h = refl
at_take (suc k) (x ∷ xs) (suc n) h = at_take k xs n (omega arith)

next_due : (k : ℕ) (l : List Triple) (n : ℕ) → n < k → k ≤ length l → drop n (take k l) ≡ move_at l n ∷ drop (suc n) (take k l)
next_due k l n low high =
    let e = length-take k l in
    drop_next (take k l) n (omega arith) ∙ ap (λ (x : Triple). x ∷ drop (suc n) (take k l)) (at_take k l n low)

none_left : (l : List Triple) (n : ℕ) → length l ≤ n → drop n (take (length l) l) ≡ []
none_left l n h = ap (drop n) (take-length l) ∙ drop_of_length-le l h

-- ---- What waits for a follower that is not at its closing.

module _ (v : View) (slot next i : ℕ) (p : Part) (ok : IsSoundBoard v) (e : get_elem? v.parts i ≡ some p) (here : p.slot ≡ slot) (is : next_of p ≡ next) (uncut : closing_at v slot ≢ Some next) where
  the_note : (n : Note) × (get_elem? v.notes slot ≡ some n)
  the_note = let x = (ok.inside i p e).0 in note_there v.notes slot (omega (arith, ok.noted, x, here))

  agrees : Agrees v the_note.0 p
  agrees = ok.agree i p e the_note.0 (ap (get_elem? v.notes) here ∙ the_note.1)

  cut-is : closing_at v slot ≡ closing_noted the_note.0
  cut-is = ap closing_found the_note.1

  pub before_closing : (d : ℕ) → p.closing ≡ Some d → next_of p < d
  before_closing = by the_note.0 agrees (λ c. uncut (cut-is ∙ c))
    where
      by : (n : Note) → Agrees v n p → (closing_noted n ≡ Some next → ⊥) → (d : ℕ) → p.closing ≡ Some d → next_of p < d
      by Vacant a ne d c = absurd a
      by (Open joined least) a ne d c = absurd (none-some d (sym a.1 ∙ c))
      by (Closed x) a ne d c =
          let same = a.4 d c in
          let low = a.0 in
          let apart : next ≢ x = λ z. ne (ap (λ (y : ℕ). Some y) (sym z)) in omega (arith, same, low, apart, is)

  pub more_due : next < length v.log → (rest : List Triple) × (due_at v slot next ≡ move_at v.log next ∷ rest)
  more_due less = by the_note.0 agrees (λ c. uncut (cut-is ∙ c)) cut-is
    where
      by : (n : Note) → Agrees v n p → (closing_noted n ≡ Some next → ⊥) → closing_at v slot ≡ closing_noted n → (rest : List Triple) × (due_at v slot next ≡ move_at v.log next ∷ rest)
      by Vacant a ne c = absurd a
      by (Open joined least) a ne c = (_, ap (λ (o : Option ℕ). drop next (take (unwrap_or o (length v.log)) v.log)) c ∙ next_due (length v.log) v.log next less (omega arith))
      by (Closed x) a ne c =
          let apart : next ≢ x = λ z. ne (ap (λ (y : ℕ). Some y) (sym z)) in
          let low = a.0 in
          (_, ap (λ (o : Option ℕ). drop next (take (unwrap_or o (length v.log)) v.log)) c ∙ next_due x v.log next (omega (arith, low, apart, is)) a.1)

  pub none_due : length v.log ≤ next → (closing_at v slot ≡ None) × (due_at v slot next ≡ [])
  none_due past = by the_note.0 agrees (λ c. uncut (cut-is ∙ c)) cut-is
    where
      by : (n : Note) → Agrees v n p → (closing_noted n ≡ Some next → ⊥) → closing_at v slot ≡ closing_noted n → (closing_at v slot ≡ None) × (due_at v slot next ≡ [])
      by Vacant a ne c = absurd a
      by (Open joined least) a ne c = (c, ap (λ (o : Option ℕ). drop next (take (unwrap_or o (length v.log)) v.log)) c ∙ none_left v.log next past)
      by (Closed x) a ne c =
          let apart : next ≢ x = λ z. ne (ap (λ (y : ℕ). Some y) (sym z)) in
          let low = a.0 in
          let high = a.1 in absurd (omega (arith, low, high, apart, is, past))

-- at its closing nothing waits
pub cut_due : (v : View) (slot next : ℕ) → closing_at v slot ≡ Some next → due_at v slot next ≡ []
cut_due v slot next is =
    let e = length-take next v.log in
    ap (λ (o : Option ℕ). drop next (take (unwrap_or o (length v.log)) v.log)) is ∙ drop_of_length-le (take next v.log) (omega arith)

-- ---- The parts.

taken_none : (slot : ℕ) (l : List Holding) → map (with_items slot []) l ≡ l
taken_none slot [] = refl
taken_none slot (h ∷ hs) =
    let one : with_items slot [] h ≡ h = pick (λ (x : Holding). x ≡ h) (eqb h.0 slot) (h.0, h.1, h.2 ++ []) h (λ _. ap (λ (l : List Triple). (h.0, h.1, l)) (append_none h.2)) (λ _. refl) in
    λ i. one i ∷ taken_none slot hs i
  where
    append_none : (l : List Triple) → l ++ [] ≡ l
    append_none [] = refl
    append_none (x ∷ xs) = ap (λ (t : List Triple). x ∷ t) (append_none xs)

held_seen : (r : ℕ) (ps : List Part) → map holding_of (map (sees r) ps) ≡ map holding_of ps
held_seen r [] = refl
held_seen r (p ∷ ps) = ap (λ (t : List Holding). holding_of p ∷ t) (held_seen r ps)

-- if the follower is at its closing, nothing is done
pub took_cut : (slot : ℕ) (v : View) → TookAt slot Cut v v
took_cut slot v = record {
  owns = refl;
  setup = refl;
  log = refl;
  outcome = refl;
  notes = refl;
  closings = refl;
  parts = sym (taken_none slot (map holding_of v.parts));
  looked = λ i p e at. (p, e, refl);
}

-- the part that was looked for, once the status was loaded
seen_at : (r i : ℕ) (v w : View) (p : Part) → w ≡ each_part (sees r) v → get_elem? v.parts i ≡ some p → get_elem? w.parts i ≡ some (sees r p)
seen_at r i v w p is e = ap (λ (x : View). get_elem? x.parts i) is ∙ at_map (sees r) v.parts i p e

-- if no move waits, the status is loaded
pub took_look : (slot r : ℕ) (v w : View) (answer : Taken) → items_of answer ≡ [] → ((p q : Part) → HasLooked v p q → q.closing ≡ p.closing → Looked answer v p q)
    → w ≡ each_part (sees r) v → length_in r ≡ length v.log → outcome_in r ≡ v.outcome → TookAt slot answer v w
took_look slot r v w answer none by is len over = record {
  owns = ap (λ (x : View). x.owns) is;
  setup = ap (λ (x : View). x.setup) is;
  log = ap (λ (x : View). x.log) is;
  outcome = ap (λ (x : View). x.outcome) is;
  notes = ap (λ (x : View). x.notes) is;
  closings = ap (λ (x : View). x.closings) is;
  parts = ap (λ (x : View). map holding_of x.parts) is ∙ held_seen r v.parts ∙ sym (ap (λ (l : List Triple). map (with_items slot l) (map holding_of v.parts)) none ∙ taken_none slot (map holding_of v.parts));
  looked = λ i p e at. (sees r p, seen_at r i v w p is e, by p (sees r p) (refl, len, over) refl);
}

-- the parts after the two steps that take a move
grown : (slot word r : ℕ) (m : Triple) (ps : List Part) → ((i : ℕ) (p : Part) → get_elem? ps i ≡ some p → p.slot ≡ slot → (next_word p ≡ word) × (next_of p < p.seen))
    → map holding_of (map (only_at (slot + 2) (gains r)) (map (finds word m) ps)) ≡ map (with_items slot (m ∷ [])) (map holding_of ps)
grown slot word r m [] all = refl
grown slot word r m (p ∷ ps) all =
    let one : holding_of (only_at (slot + 2) (gains r) (finds word m p)) ≡ with_items slot (m ∷ []) (holding_of p) = dite (ℕ_discrete p.slot slot)
    (λ (here : p.slot ≡ slot).
    let t = all 0 p refl here in
    let found = found_is word m p t.1 t.0 in
    (λ k. holding_of (cond (eq-eqb (p.slot + 2) (slot + 2) (ap (λ (x : ℕ). x + 2) here) k) (gains r (found k)) (finds word m p)))
    ∙ sym (λ k. cond (eq-eqb p.slot slot here k) (p.slot, p.joined, p.taken ++ m ∷ []) (holding_of p)))
    (λ ne. (λ k. holding_of (cond (ne_eqb (p.slot + 2) (slot + 2) (λ e. ne (omega arith)) k) (gains r (finds word m p)) (finds word m p)))
    ∙ sym (λ k. cond (ne_eqb p.slot slot ne k) (p.slot, p.joined, p.taken ++ m ∷ []) (holding_of p))) in
    λ k. one k ∷ grown slot word r m ps (λ i q e. all (suc i) q e) k

pub took_move : (slot next r cursor i : ℕ) (m : Triple) (p : Part) (v u w : View) → IsSoundBoard u → u ≡ each_part (sees r) v → length_in r ≡ length v.log → outcome_in r ≡ v.outcome → next < length v.log → get_elem? u.parts i ≡ some p → p.slot ≡ slot → next_of p ≡ next
    → w ≡ each_part (only_at (slot + 2) (gains cursor)) (each_part (finds (move_word_at u.setup.limits next) m) u) → TookAt slot (Move next m) v w
took_move slot next r cursor i m p v u w ok u-is seen over less e here is w-is =
    let sized = ok.inside i p e in
    let word : ℕ = move_word_at u.setup.limits next in
    let seen-all : (j : ℕ) (q : Part) → get_elem? u.parts j ≡ some q → q.seen ≡ length v.log = λ j q d. seen_by v.parts j q (ap (λ (x : View). get_elem? x.parts j) (sym u-is) ∙ d) in
    record {
      owns = ap (λ (x : View). x.owns) w-is ∙ ap (λ (x : View). x.owns) u-is;
      setup = ap (λ (x : View). x.setup) w-is ∙ ap (λ (x : View). x.setup) u-is;
      log = ap (λ (x : View). x.log) w-is ∙ ap (λ (x : View). x.log) u-is;
      outcome = ap (λ (x : View). x.outcome) w-is ∙ ap (λ (x : View). x.outcome) u-is;
      notes = ap (λ (x : View). x.notes) w-is ∙ ap (λ (x : View). x.notes) u-is;
      closings = ap (λ (x : View). x.closings) w-is ∙ ap (λ (x : View). x.closings) u-is;
      parts = ap (λ (x : View). map holding_of x.parts) w-is
          ∙ grown slot (move_word_at u.setup.limits next) cursor m u.parts (λ j q d at-slot.
          let same : j ≡ i = ok.once j i q p d e (at-slot ∙ sym here) in
          let q-is : q ≡ p = some-injective _ _ (sym d ∙ ap (get_elem? u.parts) same ∙ e) in
          let n = ap next_of q-is in
          let z = ap (λ (x : Part). x.setup.limits.followers) q-is in
          let s = seen-all j q d in
          let f = ap (λ (t : BoardSetup). t.limits.followers) sized.1 in (omega arith, omega arith))
          ∙ ap (λ (x : View). map (with_items slot (m ∷ [])) (map holding_of x.parts)) u-is ∙ ap (map (with_items slot (m ∷ []))) (held_seen r v.parts);
      looked = λ j q d at. (
        only_at (slot + 2) (gains cursor) (finds word m (sees r q)),
        ap (λ (x : View). get_elem? x.parts j) w-is
            ∙ at_map (only_at (slot + 2) (gains cursor)) (map (finds word m) u.parts) j (finds word m (sees r q)) (at_map (finds word m) u.parts j (sees r q) (seen_at r j v u q u-is d)),
        pick (HasLooked v q) (eqb (q.slot + 2) (slot + 2)) (gains cursor (finds word m (sees r q))) (finds word m (sees r q)) (λ _. (refl, seen, over)) (λ _. (refl, seen, over)),
      );
    }
  where
    seen_by : (ps : List Part) (j : ℕ) (q : Part) → get_elem? (map (sees r) ps) j ≡ some q → q.seen ≡ length v.log
    seen_by [] j q d = absurd (some-ne-none q (sym d))
    seen_by (x ∷ xs) zero q d = ap (λ (y : Part). y.seen) (sym (some-injective _ _ d)) ∙ seen
    seen_by (x ∷ xs) (suc j) q d = seen_by xs j q d

-- a take that found no move
pub took_none : (slot status next : ℕ) (v w : View) (over : Option Outcome) → w ≡ each_part (sees status) v → length_in status ≡ length v.log
    → outcome_in status ≡ v.outcome → TookAt slot (taken_of next over None []) v w
took_none slot status next v w None is len outcome = took_look slot status v w Nothing refl (λ p q has same. (has, same)) is len outcome
took_none slot status next v w (Some o) is len outcome = took_look slot status v w (Over o) refl (λ p q has same. (has, same)) is len outcome
