-- Cursors and what is noted about them.
use Rattle.std.proofs.Common.{inl, inr, ◌≡◌, ℕ, ◌+◌, ◌-◌, ◌*◌, ◌/◌, ◌%◌, ◌<◌, ◌≢◌, List, [], ◌∷◌, ◌++◌, set, Option, Some, None, sym, ap, ◌∙◌, subst, refl, ⊎_elim, arith, cond, eq-eqb, ne_eqb, lt-ltb, le-ltb, length-append}
use Rattle.std.proofs.lemmas.Option.{same_Some, none-some}
use mathlib.Core.Option.{some}
use lib.ListN.{get_elem?}
use Rattle.atomic_table.proofs.Lists.{at_set}
use Rattle.c960_board.specs.Moves.{Triple}
use Rattle.live_board.specs.declared.words.TheConstants.{MARK}
use Rattle.live_board.specs.SharedBoard.{SharedFollower, next, with_follower}
use Rattle.live_board.proofs.SharedFollowers.{with_here, with_there, with_cases}
use Rattle.live_board.specs.declared.note.Note.{Note}
use Rattle.live_board.specs.declared.note.Note.TheVariants.{Vacant, Open, Closed}
use Rattle.live_board.specs.Words.{mark, cursor_of, cursor_word, closing_in, joined_noted, note_after}
use Rattle.live_board.specs.Shows.{IsTrueNote}
use Rattle.live_board.specs.Sound.{Follows}

abbrev pub follower : ℕ → List Triple → Option ℕ → SharedFollower
follower joined taken closing = record { joined = joined; taken = taken; closing = closing }

-- the next place fits next to the mark
abbrev pub Near : Option SharedFollower → Type 0
Near o = (f : SharedFollower) → o ≡ Some f → next f < MARK

-- the closing is read back
pub closing_is : (x : ℕ) (d : Option ℕ) → x < MARK → closing_in (x + MARK * mark d) ≡ d
closing_is x None small = let q : (x + MARK * 1) / MARK ≡ 1 = omega arith in let n : ℕ = (x + MARK * 1) / MARK in
    ap (λ b. cond b (Some (n - 2)) None) (le-ltb 1 n (omega arith))
closing_is x (Some c) small = let n : ℕ = (x + MARK * (c + 2)) / MARK in let q : n ≡ c + 2 = omega arith in let m : n - 2 ≡ c = omega arith in
    ap (λ b. cond b (Some (n - 2)) None) (lt-ltb 1 n (omega arith)) ∙ ap Some m

-- the note of an open cursor, and of a closed one
open_is : (n : Note) (x : ℕ) → x < MARK → note_after n (cursor_of x None) ≡ Open (joined_noted n) x
open_is n x small =
    let w : ℕ = x + MARK * 1 in
    let q : w / MARK ≡ 1 = omega arith in
    let m : w % MARK ≡ x = omega arith in
    (λ i. cond (ne_eqb w 0 (λ e. omega arith) i) Vacant (cond (eq-eqb (w / MARK) 1 q i) (Open (joined_noted n) (w % MARK)) (Closed (w / MARK - 2))))
    ∙ ap (Open (joined_noted n)) m

closed_is : (n : Note) (x c : ℕ) → x < MARK → note_after n (cursor_of x (Some c)) ≡ Closed c
closed_is n x c small =
    let w : ℕ = x + MARK * (c + 2) in
    let q : w / MARK ≡ c + 2 = omega arith in
    let m : w / MARK - 2 ≡ c = omega arith in
    (λ i. cond (ne_eqb w 0 (λ e. omega arith) i) Vacant (cond (ne_eqb (w / MARK) 1 (λ e. omega arith) i) (Open (joined_noted n) (w % MARK)) (Closed (w / MARK - 2))))
    ∙ ap Closed m

-- a true note becomes one that is true and follows from it
pub note_loaded : (o : Option SharedFollower) → Near o → (n : Note) → IsTrueNote n o → IsTrueNote (note_after n (cursor_word o)) o × Follows n (note_after n (cursor_word o))
note_loaded None near Vacant h = (refl, refl)
note_loaded None near (Open j b) h = (refl, inl refl)
note_loaded None near (Closed c) h = (refl, inl refl)
note_loaded (Some f) near n h = by n f.closing refl h
  where
    says : (n : Note) (d : Option ℕ) → f.closing ≡ d → note_after n (cursor_word (Some f)) ≡ note_after n (cursor_of (next f) d)
    says n d e = ap (λ (y : Option ℕ). note_after n (cursor_of (next f) y)) e

    by : (n : Note) (d : Option ℕ) → f.closing ≡ d → IsTrueNote n (Some f) → IsTrueNote (note_after n (cursor_word (Some f))) (Some f) × Follows n (note_after n (cursor_word (Some f)))
    by Vacant d e h = absurd (none-some f (sym h))
    by (Open j b) None e h =
        let is = says (Open j b) None e ∙ open_is (Open j b) (next f) (near f refl) in
        (subst (λ m. IsTrueNote m (Some f)) (sym is) (h.0, e, omega arith), inr (next f, is, h.2))
    by (Open j b) (Some c) e h = absurd (none-some c (sym h.1 ∙ e))
    by (Closed c) None e h = absurd (none-some c (sym e ∙ h))
    by (Closed c) (Some d) e h =
        let is = says (Closed c) (Some d) e ∙ closed_is (Closed c) (next f) d (near f refl) in
        (subst (λ m. IsTrueNote m (Some f)) (sym is) e, inr (is ∙ ap Closed (same_Some d c (sym e ∙ h))))

-- the place that an open cursor says is the next one
pub place_noted : (o : Option SharedFollower) → Near o → (n : Note) → IsTrueNote n o → (j b : ℕ) → note_after n (cursor_word o) ≡ Open j b
    → (f : SharedFollower) × (o ≡ Some f) × (f.closing ≡ None) × (next f ≡ b)
place_noted None near n h j b e = absurd (vacant_open j b e)
  where
    vacant_open : (j b : ℕ) → Vacant ≡ Open j b → ⊥
    vacant_open j b e = cc
place_noted (Some f) near n h j b e = by f.closing refl
  where
    same_least : (i j x y : ℕ) → Open i x ≡ Open j y → x ≡ y
    same_least i j x y e = cc

    closed_open : (c j b : ℕ) → Closed c ≡ Open j b → ⊥
    closed_open c j b e = cc

    by : (d : Option ℕ) → f.closing ≡ d → (g : SharedFollower) × (Some f ≡ Some g) × (g.closing ≡ None) × (next g ≡ b)
    by None is =
        let x : note_after n (cursor_of (next f) None) ≡ Open j b = ap (λ (y : Option ℕ). note_after n (cursor_of (next f) y)) (sym is) ∙ e in
        (f, refl, is, same_least (joined_noted n) j (next f) b (sym (open_is n (next f) (near f refl)) ∙ x))
    by (Some c) is =
        let x : note_after n (cursor_of (next f) (Some c)) ≡ Open j b = ap (λ (y : Option ℕ). note_after n (cursor_of (next f) y)) (sym is) ∙ e in
        absurd (closed_open c j b (sym (closed_is n (next f) c (near f refl)) ∙ x))

-- ---- Notes when one follower changes.

-- the follower has left
pub note_gone : (n : Note) → IsTrueNote n None
note_gone Vacant = refl
note_gone (Open j b) = tt
note_gone (Closed c) = tt

-- the follower took another move
pub note_next : (n : Note) (j : ℕ) (l : List Triple) (x : Triple) (d : Option ℕ) → IsTrueNote n (Some (follower j l d)) → IsTrueNote n (Some (follower j (l ++ x ∷ []) d))
note_next Vacant j l x d h = absurd (none-some _ (sym h))
note_next (Open i b) j l x d h = let e = length-append l (x ∷ []) in let m = h.2 in (h.0, h.1, omega arith)
note_next (Closed c) j l x d h = h

abbrev pub Notes : (ℕ → Option SharedFollower) → List Note → Type 0
Notes fs l = (i : ℕ) (n : Note) → get_elem? l i ≡ some n → IsTrueNote n (fs i)

pub notes_set : (fs : ℕ → Option SharedFollower) (k : ℕ) (o : Option SharedFollower) (l : List Note) (m : Note) → Notes fs l → IsTrueNote m o → Notes (with_follower fs k o) (set l k m)
notes_set fs k o l m all mine i n e =
    ⊎_elim
    (λ (x : (i ≡ k) × (m ≡ n)). subst (λ (y : ℕ). IsTrueNote n (with_follower fs k o y)) (sym x.0) (subst (IsTrueNote n) (sym (with_here fs k o)) (subst (λ y. IsTrueNote y o) x.1 mine)))
    (λ (x : (i ≢ k) × (get_elem? l i ≡ some n)). subst (IsTrueNote n) (sym (with_there fs k o i x.0)) (all i n x.1))
    (at_set l k i m n e)

-- a note that is set when no follower changes
pub notes_put : (fs : ℕ → Option SharedFollower) (k : ℕ) (l : List Note) (m : Note) → Notes fs l → IsTrueNote m (fs k) → Notes fs (set l k m)
notes_put fs k l m all mine i n e =
    ⊎_elim
    (λ (x : (i ≡ k) × (m ≡ n)). subst (λ (y : ℕ). IsTrueNote n (fs y)) (sym x.0) (subst (λ y. IsTrueNote y (fs k)) x.1 mine))
    (λ (x : (i ≢ k) × (get_elem? l i ≡ some n)). all i n x.1)
    (at_set l k i m n e)

pub notes_same : (fs : ℕ → Option SharedFollower) (k : ℕ) (o : Option SharedFollower) (l : List Note) → Notes fs l → ((n : Note) → IsTrueNote n (fs k) → IsTrueNote n o) → Notes (with_follower fs k o) l
notes_same fs k o l all mine i n e = with_cases fs k o (λ j x. IsTrueNote n (fs j) → IsTrueNote n x) (mine n) (λ j ne h. h) i (all i n e)
