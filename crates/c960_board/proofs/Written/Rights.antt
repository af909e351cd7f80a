-- The written rights are the rights' text.
use Rattle.std.proofs.Common.{◌≡◌, ◌≢◌, ℕ, zero, suc, ◌+◌, ◌<◌, ◌≤◌, Bool, true, false, cond, List, [], ◌∷◌, ◌++◌, length, get_or, refl, sym, ap, subst, ◌∙◌, arith, inl, inr, eq-eqb, zero-add}
use Rattle.std.specs.Prelude.{◌==◌, ◌⊎◌}
use Rattle.std.proofs.Math.ListN.{get_or-eq_default}
use Rattle.std.proofs.lemmas.Bool.{cases_lt}
use Rattle.std.proofs.lemmas.Bool.Decides.{eqb_tells}
use Rattle.std.proofs.lemmas.List.Sums.{sum_by-append, sum_by-cons}
use Rattle.c960_board.specs.declared.piece.Colour.{Colour}
use Rattle.c960_board.specs.declared.piece.Colour.TheVariants.{White, Black}
use Rattle.c960_board.specs.declared.rights.CastlingRights.{CastlingRights}
use Rattle.c960_board.specs.Pieces.{other}
use Rattle.c960_board.specs.Cells.{rights_of, has_right}
use Rattle.c960_board.specs.Fen.Letters.{right_letter}
use Rattle.c960_board.specs.Fen.Rights.{times, once, IsRightLetter, SpellsRights, SpellsNoRights}
use Rattle.c960_board.specs.Fen.Canonical.{side_text, or_dash, rights_text}
use Rattle.c960_board.proofs.Written.Steps.{both_sides}

-- ---- how often a letter occurs in a side's text

-- how often a byte occurs in a text with one more byte
times-cons : (x b : ℕ) (bs : List ℕ) → times x (b ∷ bs) ≡ cond (b == x) 1 0 + times x bs
times-cons x b bs = sum_by-cons (λ y. cond (y == x) 1 0) b bs

-- how often a byte occurs in two texts
times-append : (x : ℕ) (l m : List ℕ) → times x (l ++ m) ≡ times x l + times x m
times-append x l m = sum_by-append (λ b. cond (b == x) 1 0) l m

-- a right with another letter
misses : (held : Bool) (b x : ℕ) (bs : List ℕ) → b ≢ x → times x (cond held (b ∷ bs) bs) ≡ times x bs
misses false b x bs ne = refl
misses true b x bs ne =
    elim (eqb_tells b x) [
      | inl w ↦ absurd (ne w.1)
      | inr w ↦ times-cons x b bs ∙ ap (λ (t : Bool). cond t 1 0 + times x bs) w.0 ∙ zero-add (times x bs)
    ]

-- the right with that letter
hits : (held : Bool) (b : ℕ) (bs : List ℕ) → times b (cond held (b ∷ bs) bs) ≡ once held + times b bs
hits false b bs = sym (zero-add (times b bs))
hits true b bs = times-cons b b bs ∙ ap (λ (t : Bool). cond t 1 0 + times b bs) (eq-eqb b b refl)

-- no letter but the side's
outside : (r : CastlingRights) (c : Colour) (x n : ℕ) → ((f : ℕ) → f < n → right_letter c f ≢ x)
    → times x (side_text r c n) ≡ 0
unfolding side_text
outside r c x zero ne = refl
outside r c x (suc n) ne =
    misses (has_right r c n) (right_letter c n) x (side_text r c n) (ne n (omega arith)) ∙ outside r c x n (λ f l. ne f (omega arith))

-- a side has one letter a file
same_letter : (c : Colour) (f g : ℕ) → right_letter c f ≡ right_letter c g → f ≡ g
same_letter c f g e = omega arith

-- the letter of each file once if the right is held
inside : (r : CastlingRights) (c : Colour) (f n : ℕ) → f < n
    → times (right_letter c f) (side_text r c n) ≡ once (has_right r c f)
unfolding side_text
inside r c f zero l = absurd (omega arith)
inside r c f (suc n) l =
    elim (eqb_tells n f) [
      | inl w ↦
          let below : times (right_letter c n) (side_text r c n) ≡ 0 =
          outside r c (right_letter c n) n (λ g k e. let same = same_letter c g n e in omega arith) in
          let here : times (right_letter c n) (side_text r c (suc n)) ≡ once (has_right r c n) =
          hits (has_right r c n) (right_letter c n) (side_text r c n) ∙ omega arith in
          subst (λ (k : ℕ). times (right_letter c k) (side_text r c (suc n)) ≡ once (has_right r c k)) w.1 here
      | inr w ↦
          let ne : n ≢ f = w.1 in
          misses (has_right r c n) (right_letter c n) (right_letter c f) (side_text r c n) (λ e. ne (same_letter c n f e)) ∙ inside r c f n (omega arith)
    ]

-- the sides' letters differ
other_letter : (c : Colour) (f g : ℕ) → f < 8 → g < 8 → right_letter (other c) g ≢ right_letter c f
other_letter White f g l m e = omega arith
other_letter Black f g l m e = omega arith

-- a letter does not occur in the other side's text
other_times : (r : CastlingRights) (c : Colour) (f : ℕ) → f < 8 → times (right_letter c f) (side_text r (other c) 8) ≡ 0
other_times r c f l = outside r (other c) (right_letter c f) 8 (λ g m. other_letter c f g l m)

-- each letter once if the right is held
each_once : (r : CastlingRights) (c : Colour) (f : ℕ) → f < 8
    → times (right_letter c f) (both_sides r) ≡ once (has_right r c f)
each_once r White f l =
    omega (arith, times-append (right_letter White f) (side_text r White 8) (side_text r Black 8), inside r White f 8 l, other_times r White f l)
each_once r Black f l =
    omega (arith, times-append (right_letter Black f) (side_text r White 8) (side_text r Black 8), inside r Black f 8 l, other_times r Black f l)

-- ---- all bytes are letters

-- each byte is a right's letter
AreLetters : List ℕ → Type 0
AreLetters text = (k : ℕ) → k < length text → IsRightLetter (get_or text k 0)

-- one letter more
letters-cons : (b : ℕ) (bs : List ℕ) → IsRightLetter b → AreLetters bs → AreLetters (b ∷ bs)
unfolding AreLetters
letters-cons b bs h t zero l = h
letters-cons b bs h t (suc k) l = t k (omega arith)

-- the letters of two texts
letters-append : (l m : List ℕ) → AreLetters l → AreLetters m → AreLetters (l ++ m)
unfolding AreLetters
letters-append [] m p q = q
letters-append (b ∷ bs) m p q =
    letters-cons b (bs ++ m) (p 0 (omega arith)) (letters-append bs m (λ k l. p (suc k) (omega arith)) q)

-- a side's text is made of letters
side_letters : (r : CastlingRights) (c : Colour) (n : ℕ) → n ≤ 8 → AreLetters (side_text r c n)
unfolding side_text AreLetters
side_letters r c zero l = λ k m. absurd (omega arith)
side_letters r c (suc n) l =
    let rest = side_letters r c n (omega arith) in
    let here : IsRightLetter (right_letter c n) =
    record { colour = c; file = n; on_board = omega arith; letter = refl } in
    elim (has_right r c n) as (λ (b : Bool). AreLetters (cond b (right_letter c n ∷ side_text r c n) (side_text r c n))) [
      | true ↦ letters-cons (right_letter c n) (side_text r c n) here rest
      | false ↦ rest
    ]

-- ---- no rights

-- a right whose letter occurs nowhere is not held
none_once : (held : Bool) → once held ≡ 0 → held ≡ false
none_once true e = absurd (omega arith)
none_once false e = refl

-- if no letter is written, no right is held
none_held : (r : CastlingRights) (c : Colour) (f : ℕ) → length (rights_of r c) ≡ 8 → both_sides r ≡ []
    → has_right r c f ≡ false
none_held r c f width e =
    elim (cases_lt f 8) [
      | inl l ↦ none_once (has_right r c f) (sym (each_once r c f l) ∙ ap (times (right_letter c f)) e)
      | inr l ↦ get_or-eq_default (rights_of r c) false (rw width l)
    ]

-- the letters spell the rights, or a dash says that there are none
spelt_or_dash : (r : CastlingRights) (text : List ℕ) → ((c : Colour) → length (rights_of r c) ≡ 8) → both_sides r ≡ text
    → SpellsNoRights (or_dash text) r ⊎ SpellsRights (or_dash text) r
unfolding AreLetters
spelt_or_dash r [] width e = inl (record { is_dash = refl; none = λ c f. none_held r c f (width c) e })
spelt_or_dash r (b ∷ bs) width e =
    let all = letters-append (side_text r White 8) (side_text r Black 8) (side_letters r White 8 (omega arith)) (side_letters r Black 8 (omega arith)) in
    let spelt : SpellsRights (b ∷ bs) r = record {
      some = omega arith;
      letters = subst AreLetters e all;
      each = λ c f l. sym (ap (times (right_letter c f)) e) ∙ each_once r c f l;
    } in
    inr spelt

-- the written rights spell the rights
pub rights_spelt : (r : CastlingRights) → ((c : Colour) → length (rights_of r c) ≡ 8)
    → SpellsNoRights (rights_text r) r ⊎ SpellsRights (rights_text r) r
unfolding rights_text
rights_spelt r width = spelt_or_dash r (both_sides r) width refl
