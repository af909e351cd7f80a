-- 3 and 12. A part moves to a seat of its own, and a seat takes in the parts of another.
use Rattle.std.proofs.Common.{◌≡◌, ◌≢◌, ℕ, zero, suc, ◌+◌, List, [], ◌∷◌, ◌++◌, set, sym, refl, subst, ⊎_elim, arith}
use mathlib.Core.Option.{some, some-ne-none}
use lib.ListN.{get_elem?}
use Rattle.atomic_table.proofs.Lists.{at_set, at_snoc}
use Rattle.live_board.specs.declared.view.Part.{Part}
use Rattle.live_board.specs.declared.view.View.{View}
use Rattle.live_board.specs.Views.{first_of, others, kept_part, given_part, carrying, taking_in, spent}
use Rattle.live_board.specs.Shows.{total, is_at, ShowsPart}
use Rattle.live_board.specs.Kinds.{SplitsOff, SplitsOffNothing, JoinsParts}
use Rattle.live_board.proofs.EachStep.{Fits, fits, fits_set, owner_set, owner_append, viewed, with_parts, off}
use Rattle.live_board.proofs.Hands.{first_at, others_at}
use Rattle.live_board.proofs.lemmas.Totals.{total-append, total-set}

-- ---- 3.

cut_total : (f : Part → ℕ) (ps : List Part) → total f (others ps) + total f (first_of ps) ≡ total f ps
cut_total f [] = refl
cut_total f (p ∷ ps) = omega arith

pub splits_off : SplitsOff
splits_off z a s id v r seat =
    let l = kept_part v in
    let n = given_part v in
    let all = fits_set z a s.words s.views id l (λ j u _ e. fits z a s r j u e)
    ((λ o. let b = r.board id v seat o in (b.0, with_parts z a s.words v (others v.parts) b.1)), λ i p e. r.parts id v seat (suc i) p (others_at v.parts i p e)) in
    let fresh : (j : ℕ) → Fits z a s.words j n = λ j. ((λ o. absurd (off o)), λ i p e. r.parts id v seat 0 p (first_at v.parts i p e)) in
    let every : (j : ℕ) (u : View) → get_elem? (set s.views id l ++ n ∷ []) j ≡ some u → Fits z a s.words j u = λ j u e.
    ⊎_elim (λ x. all j u x) (λ (x : n ≡ u). subst (Fits z a s.words j) x (fresh j)) (at_snoc (set s.views id l) n u j e) in
    viewed z a s r (set s.views id l ++ n ∷ []) (owner_append (set s.views id l) (n ∷ []) (owner_set s.views id v l seat (λ o. o) r.owner)) every
    (λ k h. let f : View → ℕ = λ u. total (is_at k) u.parts in
    omega (arith, total-append f (set s.views id l) (n ∷ []), total-set f s.views id v l seat, cut_total (is_at k) v.parts, r.one_part k h))

pub splits_off_nothing : SplitsOffNothing
splits_off_nothing z a s id v r seat =
    let n = carrying v.setup [] in
    let all = fits_set z a s.words s.views id v (λ j u _ e. fits z a s r j u e) (r.board id v seat, r.parts id v seat) in
    let fresh : (j : ℕ) → Fits z a s.words j n = λ j. ((λ o. absurd (off o)), λ i p e. absurd (some-ne-none p (sym e))) in
    let every : (j : ℕ) (u : View) → get_elem? (set s.views id v ++ n ∷ []) j ≡ some u → Fits z a s.words j u = λ j u e.
    ⊎_elim (λ x. all j u x) (λ (x : n ≡ u). subst (Fits z a s.words j) x (fresh j)) (at_snoc (set s.views id v) n u j e) in
    viewed z a s r (set s.views id v ++ n ∷ []) (owner_append (set s.views id v) (n ∷ []) (owner_set s.views id v v seat (λ o. o) r.owner)) every
    (λ k h. let f : View → ℕ = λ u. total (is_at k) u.parts in
    omega (arith, total-append f (set s.views id v) (n ∷ []), total-set f s.views id v v seat, r.one_part k h))

-- ---- 12.

at_append : (ps qs : List Part) (P : Part → Type 0) → ((i : ℕ) (x : Part) → get_elem? ps i ≡ some x → P x) → ((i : ℕ) (x : Part) → get_elem? qs i ≡ some x → P x) → (i : ℕ) (x : Part) → get_elem? (ps ++ qs) i ≡ some x → P x
at_append [] qs P h g i x e = g i x e
at_append (p ∷ ps) qs P h g zero x e = h 0 x e
at_append (p ∷ ps) qs P h g (suc i) x e = at_append ps qs P (λ k y d. h (suc k) y d) g i x e

pub joins_parts : JoinsParts
joins_parts z a s id v other w r seat apart follower there =
    let both = taking_in v w in
    let was : get_elem? s.views other ≡ some w = ⊎_elim (λ (t : (other ≡ id) × (both ≡ w)). absurd (apart t.0)) (λ (t : (other ≢ id) × (get_elem? s.views other ≡ some w)). t.1) (at_set s.views id other both w there) in
    let mid = fits_set z a s.words s.views id both (λ j u _ e. fits z a s r j u e) (
      (λ o. let b = r.board id v seat o in (b.0, with_parts z a s.words v (w.parts ++ v.parts) b.1)),
      at_append w.parts v.parts (ShowsPart z a) (r.parts other w was) (r.parts id v seat),
    ) in
    let every = fits_set z a s.words (set s.views id both) other spent (λ j u _ e. mid j u e) ((λ o. absurd (off o)), λ i p e. absurd (some-ne-none p (sym e))) in
    viewed z a s r (set (set s.views id both) other spent) (owner_set (set s.views id both) other w spent there (λ o. absurd (follower o)) (owner_set s.views id v both seat (λ o. o) r.owner)) every
    (λ k h. let f : View → ℕ = λ u. total (is_at k) u.parts in
    omega (arith, total-set f (set s.views id both) other w spent there, total-set f s.views id v both seat, total-append (is_at k) w.parts v.parts, r.one_part k h))
