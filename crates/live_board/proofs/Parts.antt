-- Parts of followers when one follower changes.
use Rattle.std.proofs.Common.{◌≡◌, ℕ, zero, suc, ◌+◌, ◌≢◌, false, List, [], ◌∷◌, Option, sym, refl, ap, ◌∙◌, subst, arith, cond, eqb, eq-eqb, ne_eqb, eqb-true}
use mathlib.Core.Logic.{dite}
use mathlib.Core.Option.{some, some-injective, some-ne-none}
use native.Mathlib.Decide.{ℕ_discrete}
use lib.ListN.{get_elem?}
use Rattle.live_board.specs.SharedBoard.{SharedFollower, SharedBoard}
use Rattle.live_board.specs.Events.{changed}
use Rattle.live_board.proofs.SharedFollowers.{with_there}
use Rattle.live_board.specs.declared.setup.BoardSetup.{BoardSetup}
use Rattle.live_board.specs.declared.view.Part.{Part}
use Rattle.live_board.specs.declared.view.View.{View}
use Rattle.live_board.specs.Views.{without}
use Rattle.live_board.specs.Shows.{Table, total, is_at, one_if, ShowsPart, Shows}
use Rattle.live_board.proofs.lemmas.Totals.{term_le, terms_le}
use Rattle.live_board.proofs.lemmas.Cases.{pick, not_there}

pub part_other : (z : BoardSetup) (a : SharedBoard) (k : ℕ) (o : Option SharedFollower) (p : Part) → ShowsPart z a p → p.slot ≢ k → ShowsPart z (changed a k o) p
part_other z a k o p h ne = record {
  inside = h.inside;
  setup_is = h.setup_is;
  closing = h.closing;
  has = with_there a.followers k o p.slot ne ∙ h.has;
  before = h.before;
  noticed = h.noticed;
  unnoticed = h.unnoticed;
  seen = h.seen;
  over = h.over;
  loaded = h.loaded;
}

pub at_yes : (k : ℕ) (p : Part) → p.slot ≡ k → is_at k p ≡ 1
at_yes k p e = ap (λ b. cond b 1 0) (eq-eqb p.slot k e)

pub at_no : (k : ℕ) (p : Part) → p.slot ≢ k → is_at k p ≡ 0
at_no k p n = ap (λ b. cond b 1 0) (ne_eqb p.slot k n)

-- two parts of one slot are the same part of the same seat
pub same_part : (z : BoardSetup) (a : SharedBoard) (s : Table) (r : Shows z a s) (j j' i i' : ℕ) (v v' : View) (p p' : Part) → get_elem? s.views j ≡ some v → get_elem? s.views j' ≡ some v' → get_elem? v.parts i ≡ some p → get_elem? v'.parts i' ≡ some p'
    → p'.slot ≡ p.slot → (j' ≡ j) × (i' ≡ i)
same_part z a s r j j' i i' v v' p p' e e' d d' same =
    let k = p.slot in
    let h = r.parts j v e i p d in
    let count = r.one_part k h.inside in
    let one : one_if (a.followers k) ≡ 1 = ap one_if h.has in
    let f : View → ℕ = λ u. total (is_at k) u.parts in
    let x = at_yes k p refl in
    let y = at_yes k p' same in
    let t = term_le (is_at k) v.parts i p d in
    let t' = term_le (is_at k) v'.parts i' p' d' in
    dite (ℕ_discrete j' j)
    (λ (here : j' ≡ j). (
      here,
      dite (ℕ_discrete i' i) (λ x. x) (λ ne.
          let u = some-injective v v' (sym e ∙ ap (get_elem? s.views) (sym here) ∙ e') in
          let d'' : get_elem? v.parts i' ≡ some p' = ap (λ (x : View). get_elem? x.parts i') u ∙ d' in
          absurd (omega (arith, terms_le (is_at k) v.parts i i' p p' ne d d'', term_le f s.views j v e))),
    ))
    (λ apart. absurd (omega (arith, terms_le f s.views j j' v v' apart e e')))

abbrev Found : ℕ → List Part → Part → Type 0
Found word ps q = (i' : ℕ) × (get_elem? ps i' ≡ some q) × (q.slot + 2 ≢ word)

found_in : (word : ℕ) (p : Part) (ps qs : List Part) (q : Part) → eqb (p.slot + 2) word ≡ false → ((i : ℕ) → get_elem? qs i ≡ some q → Found word ps q) → (i : ℕ) → get_elem? (p ∷ qs) i ≡ some q → Found word (p ∷ ps) q
found_in word p ps qs q ne more zero d = (0, d, subst (λ (x : Part). x.slot + 2 ≢ word) (some-injective p q d) (not_there word (p.slot + 2) ne))
found_in word p ps qs q ne more (suc i) d = let t = more i d in (suc t.0, t.1, t.2)

pub without_at : (word : ℕ) (ps : List Part) (i : ℕ) (q : Part) → get_elem? (without word ps) i ≡ some q → Found word ps q
without_at word [] i q e = absurd (some-ne-none q (sym e))
without_at word (p ∷ ps) i q e = pick (λ (l : List Part). get_elem? l i ≡ some q → Found word (p ∷ ps) q) (eqb (p.slot + 2) word) (without word ps) (p ∷ without word ps)
    (λ _ d. let t = without_at word ps i q d in (suc t.0, t.1, t.2))
    (λ ne. found_in word p ps (without word ps) q ne (λ k. without_at word ps k q) i) e

pub without_none : (k word : ℕ) (ps : List Part) → k + 2 ≡ word → total (is_at k) (without word ps) ≡ 0
without_none k word [] is = refl
without_none k word (p ∷ ps) is = pick (λ (l : List Part). total (is_at k) l ≡ 0) (eqb (p.slot + 2) word) (without word ps) (p ∷ without word ps)
    (λ _. without_none k word ps is)
    (λ ne. let n = at_no k p (λ e. not_there word (p.slot + 2) ne (omega arith)) in omega (arith, without_none k word ps is))

pub without_same : (k word : ℕ) (ps : List Part) → k + 2 ≢ word → total (is_at k) (without word ps) ≡ total (is_at k) ps
without_same k word [] is = refl
without_same k word (p ∷ ps) is = pick (λ (l : List Part). total (is_at k) l ≡ total (is_at k) (p ∷ ps)) (eqb (p.slot + 2) word) (without word ps) (p ∷ without word ps)
    (λ e. let y = eqb-true (p.slot + 2) word e in let n = at_no k p (λ x. is (omega arith)) in omega (arith, without_same k word ps is))
    (λ ne. omega (arith, without_same k word ps is))
